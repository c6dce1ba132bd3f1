mod EscapeLemmas
mod PrintedLemmas
