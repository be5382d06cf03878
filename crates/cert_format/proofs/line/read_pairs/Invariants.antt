-- The pairs that are kept so far, with those that the words that are left name, begin as the pairs of all words do.
use Rattle.std.proofs.Common.{◌≡◌, ◌≤◌, ◌++◌, List, length, ℕ}
use Rattle.std.specs.Prelude.{ℤ, option_map, take}
use Rattle.texts.specs.Lines.{words_of}
use Rattle.certificate_model.specs.Text.{pairs_in}
use Rattle.cert_format.proofs.line.read_pairs.Given as goal

abbrev pub invariant-loop-row : goal.invariant-loop-row
invariant-loop-row l = record {
  first : option_map (take l.fn.most) (pairs_in (words_of l.fn.words)) ≡ option_map (λ (more : List (ℕ × ℤ)). take l.fn.most (l.pairs.items ++ more)) (pairs_in (words_of l.rest));
  few : length l.pairs.items ≤ l.fn.most;
}

abbrev pub decreases-loop-row : goal.decreases-loop-row
decreases-loop-row l = length l.rest
