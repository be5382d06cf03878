-- The term of a cap as the code makes it, and that it fits.
use Rattle.std.proofs.Common.{◌≡◌, ℕ, ◌*◌, ◌<◌, List, [], ◌∷◌, length, map, None, Some, Option, refl, ap, ◌∙◌, arith}
use Rattle.std.specs.Prelude.{ℤ, pos, ◌*ℤ◌, ◌≤ℤ◌, unsigned_abs}
use Rattle.std.proofs.lemmas.Int.{ints}
use Rattle.std.proofs.lemmas.List.{length-map}
use Rattle.std.proofs.lemmas.List.Elements.{All-map, All-nil}
use Rattle.sparse_program.specs.Terms.{weight}
use Rattle.sparse_program.specs.declared.row.Linear.{Linear}
use Rattle.program_model.specs.Rows.{once}
use Rattle.program_model.specs.SwitchRows as model
use Rattle.flow_switches.specs.Conditions.{CapFits, TermFits}
use Rattle.flow_switches.specs.Sums.{cap_sum, cap_term, sum_of, term_of}
use Rattle.flow_switches.specs.declared.term.Term.{Term}

-- the columns of a gate, each so many times
each_times : (cap : ℤ) (gate : List ℕ) → pos 0 ≤ℤ cap → map (λ (column : ℕ). (column, cap)) gate ≡ (cap_sum (unsigned_abs cap) (Some gate)).terms
each_times cap [] not_negative = refl
each_times cap (column ∷ gate) not_negative =
    let here : cap ≡ pos (unsigned_abs cap) *ℤ pos 1 = omega (arith, ints, not_negative) in
    let first : ℕ × ℤ = (column, cap) in
    let same : first ≡ (column, pos (unsigned_abs cap) *ℤ pos 1) = ap (λ (z : ℤ). (column, z)) here in
    ap (λ (term : ℕ × ℤ). term ∷ map (λ (other : ℕ). (other, cap)) gate) same
    ∙ ap (λ (terms : List (ℕ × ℤ)). (column, pos (unsigned_abs cap) *ℤ pos 1) ∷ terms) (each_times cap gate not_negative)

-- the term without a gate
pub no_gate_is : (of : Linear) (cap : ℤ) (terms : List (ℕ × ℤ)) → pos 0 ≤ℤ cap → of ≡ record { constant = cap; terms = terms } → terms ≡ [] →
    term_of (record { of = of; most = cap }) ≡ cap_term cap None
no_gate_is of cap terms not_negative is none =
    let by_of : Linear → model.Term ℕ = λ other. record { of = sum_of other; most = unsigned_abs cap } in
    let by_terms : List (ℕ × ℤ) → model.Term ℕ = λ ts. record { of = record { constant = cap; terms = ts }; most = unsigned_abs cap } in
    let by_constant : ℤ → model.Term ℕ = λ z. record { of = record { constant = z; terms = [] }; most = unsigned_abs cap } in
    ap by_of is ∙ ap by_terms none ∙ ap by_constant (omega (arith, ints, not_negative))

-- and with one
pub gate_is : (of : Linear) (cap : ℤ) (gate : List ℕ) (terms : List (ℕ × ℤ)) → pos 0 ≤ℤ cap → of ≡ record { constant = pos 0; terms = terms } → terms ≡ map (λ (column : ℕ). (column, cap)) gate →
    term_of (record { of = of; most = cap }) ≡ cap_term cap (Some gate)
gate_is of cap gate terms not_negative is each =
    let by_of : Linear → model.Term ℕ = λ other. record { of = sum_of other; most = unsigned_abs cap } in
    let by_terms : List (ℕ × ℤ) → model.Term ℕ = λ ts. record { of = record { constant = pos 0; terms = ts }; most = unsigned_abs cap } in
    let by_constant : ℤ → model.Term ℕ = λ z. record { of = record { constant = z; terms = (cap_sum (unsigned_abs cap) (Some gate)).terms }; most = unsigned_abs cap } in
    ap by_of is ∙ ap by_terms (each ∙ each_times cap gate not_negative) ∙ ap by_constant (omega (arith, ints))

-- what the columns of a gate weigh
weight-gate : (cap : ℕ) (gate : List ℕ) → weight (cap_sum cap (Some gate)).terms ≡ cap * length gate
weight-gate cap [] = omega arith
weight-gate cap (column ∷ gate) =
    let here : unsigned_abs (pos cap *ℤ pos 1) ≡ cap = omega (arith, ints) in
    omega (arith, here, weight-gate cap gate)

-- it fits
pub capped_fits : (columns switches : ℕ) (cap : ℤ) (gate : Option (List ℕ)) (term : Term) → CapFits columns switches cap gate → term_of term ≡ cap_term cap gate → term.most ≡ cap →
    TermFits columns switches term
capped_fits columns switches cap None term fits is most =
    let terms : term.of.terms ≡ [] = ap (λ (t : model.Term ℕ). t.of.terms) is in
    let constant : term.of.constant ≡ pos (unsigned_abs cap) = ap (λ (t : model.Term ℕ). t.of.constant) is in
    record {
      not_negative = rw most fits.not_negative;
      there = rw terms (All-nil (λ (other : ℕ × ℤ). other.0 < columns));
      few = rw terms fits.few;
      light = rw (terms, most) (omega (arith, fits.light));
      constant = rw (constant, most) (omega (arith, fits.light));
    }
capped_fits columns switches cap (Some gate) term fits is most =
    let terms : term.of.terms ≡ (cap_sum (unsigned_abs cap) (Some gate)).terms = ap (λ (t : model.Term ℕ). t.of.terms) is in
    let constant : term.of.constant ≡ pos (unsigned_abs cap) *ℤ pos 0 = ap (λ (t : model.Term ℕ). t.of.constant) is in
    let nothing : term.of.constant ≡ pos 0 = constant ∙ (omega (arith, ints)) in
    let once_each : List (ℕ × ℤ) = map once gate in
    let long : length (cap_sum (unsigned_abs cap) (Some gate)).terms ≡ length gate =
    length-map once_each (λ (other : ℕ × ℤ). (other.0, pos (unsigned_abs cap) *ℤ other.1)) ∙ length-map {B = ℕ × ℤ} gate once in
    let heavy : weight (cap_sum (unsigned_abs cap) (Some gate)).terms ≡ unsigned_abs cap * length gate = weight-gate (unsigned_abs cap) gate in
    record {
      not_negative = rw most fits.not_negative;
      there = rw terms (All-map (λ (other : ℕ × ℤ). other.0 < columns) (λ (other : ℕ × ℤ). (other.0, pos (unsigned_abs cap) *ℤ other.1)) once_each
          (All-map (λ (other : ℕ × ℤ). other.0 < columns) once gate fits.there));
      few = rw (terms, long) fits.few;
      light = rw (terms, most) (omega (arith, heavy, fits.light));
      constant = rw (nothing, most) (omega (arith, fits.light));
    }
