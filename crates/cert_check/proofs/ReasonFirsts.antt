-- First reasons: those of pairs are those of one pair after another, and a leaf with none is good.
use Rattle.std.proofs.Common.{◌≡◌, ℕ, ◌+◌, ◌<◌, List, [], ◌∷◌, ◌++◌, length, get_or, drop, All, append_assoc, refl}
use Rattle.std.specs.Prelude.{ℤ, Option, Some, None, MatchOption}
use Rattle.std.proofs.lemmas.List.{drop_more}
use Rattle.ct_base.specs.declared.net.Net.{Net}
use Rattle.sparse_program.specs.Box.{Ranges}
use Rattle.sparse_program.specs.Program.{Parts}
use Rattle.sparse_program.specs.declared.row.Row.{Row}
use Rattle.program_model.specs.Numbers.{plan_count}
use Rattle.program_model.specs.Points.{program_of}
use Rattle.certificate_model.specs.Nodes.{LeafNode}
use Rattle.certificate_model.specs.Reasons.{IsFirst, IsGoodNode, NodeReason, empty_reasons, pair_reasons, priced_reasons}
use Rattle.certificate_model.specs.Text.{IsSpelledPair}
use Rattle.certificate_model.specs.Tree.{Empty, Priced}
use Rattle.certificate_model.specs.Value.{AreLawful}
use Rattle.certificate_model.specs.declared.verdict.Why.{Why}
use Rattle.certificate_model.proofs.NodeLaws.{good_empty, good_priced}
use Rattle.certificate_model.proofs.ReasonLaws.{IsNonzero, lawful_where_no_reason}
use Rattle.cert_check.specs.inner.Firsts.{first_of, reasons_of_pair}

-- ---- first reasons

-- no first reason: there is none
first_of-none : (reasons : List Why) → None ≡ first_of reasons → reasons ≡ []
first_of-none [] none = refl
first_of-none (why ∷ more) none = absurd (cc)

-- a first reason is the first of the list
first_of-some : (reasons : List Why) (why : Why) → Some why ≡ first_of reasons → IsFirst why reasons
first_of-some [] why some = absurd (cc)
first_of-some (first ∷ more) why some = cc

-- the first reason of the first part is that of the whole
first_of-left : (part after : List Why) (why : Why) → Some why ≡ first_of part → Some why ≡ first_of (part ++ after)
first_of-left [] after why some = absurd (cc)
first_of-left (first ∷ more) after why some = some

-- ---- pairs

-- pairs have the reasons of the first of them, and then those of the others
pair_reasons-cons : (rows : List Row) (next : ℕ) (pair : ℕ × ℤ) (pairs : List (ℕ × ℤ)) → pair_reasons rows next (pair ∷ pairs) ≡ reasons_of_pair rows next pair ++ pair_reasons rows (pair.0 + 1) pairs
pair_reasons-cons rows next pair pairs = simp append_assoc

-- the first reason of a pair is that of all, where those before it have none
pub first_of_pairs : (rows : List Row) (next i : ℕ) (pairs : List (ℕ × ℤ)) (d : ℕ × ℤ) (why : Why) → i < length pairs → Some why ≡ first_of (reasons_of_pair rows next (get_or pairs i d)) →
    pair_reasons rows 0 pairs ≡ pair_reasons rows next (drop i pairs) → Some why ≡ first_of (pair_reasons rows 0 pairs)
first_of_pairs rows next i pairs d why within some before =
    let whole : Some why ≡ first_of (reasons_of_pair rows next (get_or pairs i d) ++ pair_reasons rows ((get_or pairs i d).0 + 1) (drop (i + 1) pairs)) =
    first_of-left (reasons_of_pair rows next (get_or pairs i d)) (pair_reasons rows ((get_or pairs i d).0 + 1) (drop (i + 1) pairs)) why some in
    rw (before, drop_more pairs i d within, pair_reasons-cons rows next (get_or pairs i d) (drop (i + 1) pairs)) whole

-- no price of pairs that have a spelling is 0
spelled_some : (pairs : List (ℕ × ℤ)) → All IsSpelledPair pairs → All IsNonzero pairs
spelled_some pairs spelled = λ k d within. (spelled k d within).some

-- pairs that have a spelling and no reason are lawful
pub lawful_pairs : (rows : List Row) (pairs : List (ℕ × ℤ)) → All IsSpelledPair pairs → None ≡ first_of (pair_reasons rows 0 pairs) → AreLawful rows pairs
lawful_pairs rows pairs spelled none = lawful_where_no_reason rows pairs (spelled_some pairs spelled) (first_of-none (pair_reasons rows 0 pairs) none)

-- ---- leaves

-- a priced leaf is judged by its first reason
pub priced_judged : (net : Net) (bound : ℤ) (box : Ranges) (pairs : List (ℕ × ℤ)) (found : Option Why) → All IsSpelledPair pairs → found ≡ first_of (priced_reasons net bound box pairs) →
    MatchOption found (IsGoodNode net bound box (LeafNode (Priced pairs))) (NodeReason net bound box (LeafNode (Priced pairs)))
priced_judged net bound box pairs None spelled is = good_priced net bound box pairs (spelled_some pairs spelled) (first_of-none (priced_reasons net bound box pairs) is)
priced_judged net bound box pairs (Some why) spelled is = first_of-some (priced_reasons net bound box pairs) why is

-- and an empty one
pub empty_judged : (net : Net) (bound : ℤ) (box : Ranges) (pairs : List (ℕ × ℤ)) (found : Option Why) → All IsSpelledPair pairs → found ≡ first_of (empty_reasons net box pairs) →
    MatchOption found (IsGoodNode net bound box (LeafNode (Empty pairs))) (NodeReason net bound box (LeafNode (Empty pairs)))
empty_judged net bound box pairs None spelled is = good_empty net box pairs (spelled_some pairs spelled) (first_of-none (empty_reasons net box pairs) is)
empty_judged net bound box pairs (Some why) spelled is = first_of-some (empty_reasons net box pairs) why is

-- how many columns are the plan's
pub plan_cols_of : (net : Net) (program : Parts) → program ≡ program_of net → program.plan_cols ≡ plan_count net
unfolding program_of
plan_cols_of net program is = rw is refl
