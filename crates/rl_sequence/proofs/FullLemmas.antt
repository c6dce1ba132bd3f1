-- Widths of which no two neighbours fit into one, part by part.
use Rattle.std.proofs.Common.{ℕ, ◌+◌, ◌<◌, ◌≤◌, List, [], ◌∷◌, ◌++◌, arith}
use Rattle.rl_sequence.specs.Parts.{FullAfter, AreFull}

after_front : (p : ℕ) (ms ns : List ℕ) → FullAfter p (ms ++ ns) → FullAfter p ms
after_front p [] ns h = tt
after_front p (m ∷ ms) ns h = (h.0, after_front m ms ns h.1)

pub full_front : (ms ns : List ℕ) → AreFull (ms ++ ns) → AreFull ms
full_front [] ns h = tt
full_front (m ∷ ms) ns h = after_front m ms ns h

full_rest : (p : ℕ) (ns : List ℕ) → FullAfter p ns → AreFull ns
full_rest p [] h = tt
full_rest p (n ∷ ns) h = h.1

pub full_back : (ms ns : List ℕ) → AreFull (ms ++ ns) → AreFull ns
full_back [] ns h = h
full_back (m ∷ ms) ns h = full_back ms ns (full_rest m (ms ++ ns) h)

pub full_from : (ms : List ℕ) (m : ℕ) (ns : List ℕ) → AreFull (ms ++ (m ∷ ns)) → FullAfter m ns
full_from ms m ns h = full_back ms (m ∷ ns) h

after_seam : (p : ℕ) (ms : List ℕ) (m : ℕ) (ns : List ℕ) → FullAfter p (ms ++ (m ∷ [])) → FullAfter m ns → FullAfter p (ms ++ (m ∷ ns))
after_seam p [] m ns h k = (h.0, k)
after_seam p (a ∷ ms) m ns h k = (h.0, after_seam a ms m ns h.1 k)

pub full_seam : (ms : List ℕ) (m : ℕ) (ns : List ℕ) → AreFull (ms ++ (m ∷ [])) → FullAfter m ns → AreFull (ms ++ (m ∷ ns))
full_seam [] m ns h k = k
full_seam (a ∷ ms) m ns h k = after_seam a ms m ns h k

pub after_wider : (m w : ℕ) (ns : List ℕ) → m ≤ w → FullAfter m ns → FullAfter w ns
after_wider m w [] le h = tt
after_wider m w (n ∷ ns) le h = let g : 64 < m + n = h.0 in (omega arith, h.1)

after_with_wider : (p : ℕ) (ms : List ℕ) (m w : ℕ) (ns : List ℕ) → m ≤ w → FullAfter p (ms ++ (m ∷ ns)) → FullAfter p (ms ++ (w ∷ ns))
after_with_wider p [] m w ns le h = let g : 64 < p + m = h.0 in (omega arith, after_wider m w ns le h.1)
after_with_wider p (a ∷ ms) m w ns le h = (h.0, after_with_wider a ms m w ns le h.1)

pub full_wider : (ms : List ℕ) (m w : ℕ) (ns : List ℕ) → m ≤ w → AreFull (ms ++ (m ∷ ns)) → AreFull (ms ++ (w ∷ ns))
full_wider [] m w ns le h = after_wider m w ns le h
full_wider (a ∷ ms) m w ns le h = after_with_wider a ms m w ns le h
