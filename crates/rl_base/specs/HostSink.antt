-- A writer as a sink.
use Rattle.std.specs.Prelude.{ℕ, refl}
use Rattle.std.specs.Coded.{Coded, code_by, coded×, coded_ℕ}

-- the writer, and how many faults there were
pub record SinkOver (W : Type 0) : Type 0 where
  pub writer : W
  pub faults : ℕ

abbrev pub sink_over_code : {W : Type 0} → Coded W → Coded (SinkOver W)
sink_over_code {W} writer = code_by (W × ℕ) (coded× writer coded_ℕ) (λ s. (s.writer, s.faults)) (λ p. record { writer = p.0; faults = p.1 }) (λ _. refl)
