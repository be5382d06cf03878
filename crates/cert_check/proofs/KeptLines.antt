-- Bytes that are kept of a line do in its place: what comes behind them comes behind the line.
use Rattle.std.proofs.Common.{◌≡◌, ℕ, ◌+◌, ◌==◌, Bool, true, false, List, [], ◌∷◌, length, if◌then◌else◌, refl, sym, ap, ◌∙◌, arith}
use Rattle.ct_base.specs.declared.net.Net.{Net}
use Rattle.program_model.specs.Points.{program_of}
use Rattle.certificate_model.specs.Text.{node_in}
use Rattle.certificate_model.specs.Verdicts.{After, AtBound, AtEnd, AtHead, AtNodes, Broken, Standing, after_bound, verdict_at}
use Rattle.certificate_model.specs.declared.verdict.Why.TheVariants.{Form}
use Rattle.cert_format.specs.Unfinished.{ReadsAs}
use Rattle.cert_format.proofs.UnfinishedLaws.{whole_bound, whole_end, whole_head, whole_node}
use Rattle.cert_check.proofs.FirstPairs.{after_same_node}

-- no bytes are kept of no bytes alone
none_where : (line : List ℕ) → true ≡ (length line == 0) → line ≡ []
none_where [] is = refl
none_where (byte ∷ bytes) is =
    let some : (length (byte ∷ bytes) == 0) ≡ false = grind arith in
    absurd (cc)

pub none_of_none : (most : ℕ) (line : List ℕ) → ReadsAs most [] line → line ≡ []
none_of_none most line reads = none_where line reads.none

-- what comes behind bytes that are read as a line is comes behind the line
pub after_kept : (net : Net) (n most : ℕ) (standing : Standing) (kept line : List ℕ) (after : Standing) → most ≡ length (program_of net).rows + 1 → ReadsAs most kept line →
    After net n standing kept after → After net n standing line after
after_kept net n most AtHead kept line after rows reads is =
    is ∙ ap (λ (same : Bool). if same then AtBound else Broken n Form) (whole_head most kept line reads)
after_kept net n most AtBound kept line after rows reads is = is ∙ ap (after_bound net n) (whole_bound most kept line reads)
after_kept net n most (AtNodes bound []) kept line after rows reads is =
    is ∙ ap (λ (same : Bool). if same then AtEnd bound else Broken n Form) (whole_end most kept line reads)
after_kept net n most (AtNodes bound (box ∷ boxes)) kept line after rows reads is =
    after_same_node net bound box boxes n most (node_in kept) (node_in line) after rows (whole_node most kept line reads) is
after_kept net n most (AtEnd bound) kept line after rows reads is = is
after_kept net n most (Broken at why) kept line after rows reads is = is

-- and where a text ends, kept bytes have the verdict of those of the line
pub verdict_of_kept : (standing : Standing) (n : ℕ) (kept line : List ℕ) → (length kept == 0) ≡ (length line == 0) → verdict_at standing n kept ≡ verdict_at standing n line
verdict_of_kept (AtEnd bound) n [] [] none = refl
verdict_of_kept (AtEnd bound) n [] (byte ∷ line) none = let empty = none_where (byte ∷ line) none in absurd (cc)
verdict_of_kept (AtEnd bound) n (byte ∷ kept) [] none = let empty = none_where (byte ∷ kept) (sym none) in absurd (cc)
verdict_of_kept (AtEnd bound) n (byte ∷ kept) (other ∷ line) none = refl
verdict_of_kept AtHead n kept line none = refl
verdict_of_kept AtBound n kept line none = refl
verdict_of_kept (AtNodes bound boxes) n kept line none = refl
verdict_of_kept (Broken at why) n kept line none = refl
