-- The rows of a floor and of a move: the lists of their terms as the code inserts them, and that the rows are lawful.
use Rattle.std.proofs.Common.{◌≡◌, ℕ, suc, ◌+◌, ◌-◌, ◌*◌, ◌<◌, ◌≤◌, List, [], ◌∷◌, ◌++◌, length, map, ap, ◌∙◌, sym, arith}
use Rattle.std.specs.Prelude.{ℤ, pos, negsuc, neg_ℤ, ◌-ℤ◌, ◌*ℤ◌, ◌≤ℤ◌, unsigned_abs}
use Rattle.std.proofs.lemmas.Int.{ints}
use Rattle.std.proofs.lemmas.List.{append_assoc, length-append, length-map}
use Rattle.std.proofs.lemmas.List.Elements.{All-append, All-cons, All-map, All-nil}
use Rattle.listed.specs.Below.{table_of}
use Rattle.listed.proofs.TableLaws.{length-table_of, table_of-same}
use Rattle.sparse_program.specs.Program.{Begun}
use Rattle.sparse_program.specs.Terms.{weight}
use Rattle.sparse_program.specs.declared.limits.TheConstants.{MAX_TERMS}
use Rattle.sparse_program.specs.declared.row.Linear.{Linear}
use Rattle.program_model.specs.Rows.{once}
use Rattle.program_model.specs.SwitchRows as model
use Rattle.flow_switches.specs.Conditions.{AreBelow, FloorFits, TermFits}
use Rattle.flow_switches.specs.Sums.{sum_of, term_of}
use Rattle.flow_switches.specs.declared.term.Term.{Term}
use Rattle.flow_switches.specs.inner.Inserting.{terms_times}
use Rattle.flow_switches.proofs.Inserting.{weight-append, weight-times}
use Rattle.flow_switches.proofs.LawfulRows.{IsLawful}
use Rattle.flow_switches.proofs.Tables.{All-table_of, map-table_of, weight-table_of}

-- columns below a count, with coefficients so many times
below_times : (columns : ℕ) (factor : ℤ) (terms : List (ℕ × ℤ)) → AreBelow columns terms → AreBelow columns (terms_times factor terms)
below_times columns factor terms there =
    All-map (λ (other : ℕ × ℤ). other.0 < columns) (λ (term : ℕ × ℤ). (term.0, factor *ℤ term.1)) terms there

-- ---- one switch is on

-- the switches, once each
pub one_switch_list : (first switches : ℕ) → table_of switches (λ k. (first + k, pos 1)) ≡ (model.one_switch_row (λ m. first + m) switches).sum.terms
one_switch_list first switches = sym (map-table_of {Y = ℕ × ℤ} once switches (λ k. first + k))

pub one_switch_lawful : (columns first switches : ℕ) → first + switches ≤ columns → switches ≤ MAX_TERMS → IsLawful columns (model.one_switch_row (λ m. first + m) switches)
one_switch_lawful columns first switches there few =
    let all : List (ℕ × ℤ) = table_of switches (λ k. (first + k, pos 1)) in
    let long : length all ≡ switches = length-table_of switches (λ k. (first + k, pos 1)) in
    let heavy : weight all ≡ switches * 1 = weight-table_of switches (λ k. first + k) (pos 1) in
    rw (← one_switch_list first switches) (record {
      there = All-table_of (λ (other : ℕ × ℤ). other.0 < columns) switches (λ k. (first + k, pos 1)) (λ k below. omega (arith, below, there));
      few = omega (arith, long, few);
      light = omega (arith, heavy, few);
      small = omega arith;
    })

-- ---- a term from below

-- the switches of later terms, taken away
later_list : (first switches number : ℕ) →
    table_of (switches - (number + 1)) (λ k. (first + (number + 1) + k, negsuc 0))
    ≡ terms_times (neg_ℤ (pos 1)) (map once (table_of (switches - (number + 1)) (λ k. first + (number + 1 + k))))
later_list first switches number =
    let count : ℕ = switches - (number + 1) in
    let same : table_of count (λ k. (first + (number + 1) + k, negsuc 0)) ≡ table_of count (λ k. (first + (number + 1 + k), negsuc 0)) =
    table_of-same count (λ k. (first + (number + 1) + k, negsuc 0)) (λ k. (first + (number + 1 + k), negsuc 0))
    (λ k below. let at : first + (number + 1) + k ≡ first + (number + 1 + k) = omega arith in ap (λ (column : ℕ). (column, negsuc 0)) at) in
    same
    ∙ sym (ap (terms_times (neg_ℤ (pos 1))) (map-table_of {Y = ℕ × ℤ} once count (λ k. first + (number + 1 + k)))
    ∙ map-table_of {Y = ℕ × ℤ} (λ (term : ℕ × ℤ). (term.0, neg_ℤ (pos 1) *ℤ term.1)) count (λ k. (first + (number + 1 + k), pos 1)))

-- the term, less the flow and the later switches
pub lower_list : (flow first switches number : ℕ) (of : Linear) →
    of.terms ++ (flow, negsuc 0) ∷ table_of (switches - (number + 1)) (λ k. (first + (number + 1) + k, negsuc 0))
    ≡ (model.lower_row flow (λ m. first + m) switches number (sum_of of)).sum.terms
lower_list flow first switches number of =
    ap (λ (xs : List (ℕ × ℤ)). of.terms ++ (flow, negsuc 0) ∷ xs) (later_list first switches number)
    ∙ sym (append_assoc of.terms ((flow, negsuc 0) ∷ []) (terms_times (neg_ℤ (pos 1)) (map once (table_of (switches - (number + 1)) (λ k. first + (number + 1 + k))))))

pub lower_constant : (flow first switches number : ℕ) (of : Linear) → (model.lower_row flow (λ m. first + m) switches number (sum_of of)).sum.constant ≡ of.constant
lower_constant flow first switches number of = omega (arith, ints)

pub lower_lawful : (columns flow first switches number : ℕ) (term : Term) → flow < columns → first + switches ≤ columns → number < switches → TermFits columns switches term →
    IsLawful columns (model.lower_row flow (λ m. first + m) switches number (sum_of term.of))
lower_lawful columns flow first switches number term flow_there switches_there inside fits =
    let later : List (ℕ × ℤ) = table_of (switches - (number + 1)) (λ k. (first + (number + 1) + k, negsuc 0)) in
    let long : length (term.of.terms ++ (flow, negsuc 0) ∷ later) ≡ length term.of.terms + suc (length later) = length-append term.of.terms ((flow, negsuc 0) ∷ later) in
    let switches_long : length later ≡ switches - (number + 1) = length-table_of (switches - (number + 1)) (λ k. (first + (number + 1) + k, negsuc 0)) in
    let heavy : weight (term.of.terms ++ (flow, negsuc 0) ∷ later) ≡ weight term.of.terms + (1 + weight later) = weight-append term.of.terms ((flow, negsuc 0) ∷ later) in
    let switches_heavy : weight later ≡ (switches - (number + 1)) * 1 = weight-table_of (switches - (number + 1)) (λ k. first + (number + 1) + k) (negsuc 0) in
    rw (lower_constant flow first switches number term.of, ← lower_list flow first switches number term.of) (record {
      there = All-append (λ (other : ℕ × ℤ). other.0 < columns) term.of.terms ((flow, negsuc 0) ∷ later) fits.there
          (All-cons (λ (other : ℕ × ℤ). other.0 < columns) (flow, negsuc 0) later flow_there
          (All-table_of (λ (other : ℕ × ℤ). other.0 < columns) (switches - (number + 1)) (λ k. (first + (number + 1) + k, negsuc 0)) (λ k below. omega (arith, below, switches_there))));
      few = omega (arith, long, switches_long, fits.few, inside);
      light = omega (arith, heavy, switches_heavy, fits.light, inside);
      small = omega (arith, ints, fits.constant);
    })

-- ---- a term from above

-- the flow, less the term and the most of it at its switch
pub upper_list : (flow switch : ℕ) (term : Term) → pos 0 ≤ℤ term.most →
    (flow, pos 1) ∷ terms_times (negsuc 0) term.of.terms ++ (switch, pos 0 -ℤ term.most) ∷ [] ≡ (model.upper_row flow switch (term_of term)).sum.terms
upper_list flow switch term not_negative =
    let most : pos 0 -ℤ term.most ≡ neg_ℤ (pos 1) *ℤ (pos (unsigned_abs term.most) *ℤ pos 1) = omega (arith, ints, not_negative) in
    ap (λ (z : ℤ). (flow, pos 1) ∷ terms_times (negsuc 0) term.of.terms ++ (switch, z) ∷ []) most

pub upper_right : (flow switch : ℕ) (term : Term) → pos 0 ≤ℤ term.most →
    (pos 0 -ℤ term.most) -ℤ (pos 0 -ℤ term.of.constant)
    ≡ (model.upper_row flow switch (term_of term)).rhs -ℤ (model.upper_row flow switch (term_of term)).sum.constant
upper_right flow switch term not_negative = omega (arith, ints, not_negative)

pub upper_lawful : (columns flow switch switches : ℕ) (term : Term) → flow < columns → switch < columns → 0 < switches → TermFits columns switches term →
    IsLawful columns (model.upper_row flow switch (term_of term))
upper_lawful columns flow switch switches term flow_there switch_there some fits =
    let last : ℕ × ℤ = (switch, pos 0 -ℤ term.most) in
    let less : List (ℕ × ℤ) = terms_times (negsuc 0) term.of.terms in
    let long : length (less ++ last ∷ []) ≡ length less + 1 = length-append less (last ∷ []) in
    let less_long : length less ≡ length term.of.terms = length-map term.of.terms (λ (other : ℕ × ℤ). (other.0, negsuc 0 *ℤ other.1)) in
    let heavy : weight (less ++ last ∷ []) ≡ weight less + weight (last ∷ []) = weight-append less (last ∷ []) in
    let last_heavy : weight (last ∷ []) ≡ unsigned_abs term.most = omega (arith, ints) in
    let less_heavy : weight less ≡ 1 * weight term.of.terms = weight-times (negsuc 0) term.of.terms in
    rw (← upper_list flow switch term fits.not_negative) (record {
      there = All-cons (λ (other : ℕ × ℤ). other.0 < columns) (flow, pos 1) (less ++ last ∷ []) flow_there
          (All-append (λ (other : ℕ × ℤ). other.0 < columns) less (last ∷ []) (below_times columns (negsuc 0) term.of.terms fits.there)
          (All-cons (λ (other : ℕ × ℤ). other.0 < columns) last [] switch_there (All-nil (λ (other : ℕ × ℤ). other.0 < columns))));
      few = omega (arith, long, less_long, fits.few, some);
      light = omega (arith, heavy, last_heavy, less_heavy, fits.light, some);
      small = omega (arith, ints, fits.constant, fits.not_negative);
    })

-- ---- a floor

-- so many times the whole, and the rest, less the expression
pub floor_list : (whole rest : ℕ) (divisor : ℤ) (of : Linear) → pos 0 ≤ℤ divisor →
    (whole, divisor) ∷ (rest, pos 1) ∷ terms_times (negsuc 0) of.terms ≡ (model.floor_row whole rest (unsigned_abs divisor) (sum_of of)).sum.terms
floor_list whole rest divisor of not_negative =
    let same : divisor ≡ pos (unsigned_abs divisor) *ℤ pos 1 = omega (arith, ints, not_negative) in
    ap (λ (z : ℤ). (whole, z) ∷ (rest, pos 1) ∷ terms_times (negsuc 0) of.terms) same

pub floor_right : (whole rest : ℕ) (divisor : ℤ) (of : Linear) →
    pos 0 -ℤ (pos 0 -ℤ of.constant)
    ≡ (model.floor_row whole rest (unsigned_abs divisor) (sum_of of)).rhs -ℤ (model.floor_row whole rest (unsigned_abs divisor) (sum_of of)).sum.constant
floor_right whole rest divisor of = omega (arith, ints)

pub floor_lawful : (program : Begun) (whole rest : ℕ) (divisor : ℤ) (of : Linear) → FloorFits program whole rest divisor of →
    IsLawful (length program.columns) (model.floor_row whole rest (unsigned_abs divisor) (sum_of of))
floor_lawful program whole rest divisor of fits =
    let columns : ℕ = length program.columns in
    let less : List (ℕ × ℤ) = terms_times (negsuc 0) of.terms in
    let less_long : length less ≡ length of.terms = length-map of.terms (λ (other : ℕ × ℤ). (other.0, negsuc 0 *ℤ other.1)) in
    let less_heavy : weight less ≡ 1 * weight of.terms = weight-times (negsuc 0) of.terms in
    rw (← floor_list whole rest divisor of fits.not_negative) (record {
      there = All-cons (λ (other : ℕ × ℤ). other.0 < columns) (whole, divisor) ((rest, pos 1) ∷ less) fits.whole_there
          (All-cons (λ (other : ℕ × ℤ). other.0 < columns) (rest, pos 1) less fits.rest_there (below_times columns (negsuc 0) of.terms fits.there));
      few = omega (arith, less_long, fits.few);
      light = omega (arith, less_heavy, fits.light);
      small = omega (arith, ints, fits.constant);
    })
