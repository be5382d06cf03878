-- Certificates of small networks, worked by hand (docs/certificate.md, "Worked by hand"): the definitions compute their values, and
-- accept them.
use Rattle.std.proofs.Common.{◌≡◌, ◌≢◌, inl, inr, zero, suc, ◌<◌, ◌≤◌, refl, ℕ, true, false, List, [], ◌∷◌, Some, None, length, sym, arith}
use Rattle.std.specs.Prelude.{ℤ, pos, negsuc, ◌≤ℤ◌, codes, unsigned_abs}
use Rattle.std.proofs.lemmas.Int.{ints}
use Rattle.std.proofs.lemmas.List.Elements.{All-cons, All-nil}
use Rattle.listed.specs.Below.{join_below, sum_below, table_of, whole_sum_below}
use Rattle.std.specs.Fmt.{digits}
use Rattle.texts.specs.Lines.{lines_of}
use Rattle.ct_base.specs.Access.{cell_of, signal_of}
use Rattle.ct_base.specs.Validity.{IsCell, IsValid}
use Rattle.ct_base.specs.declared.cell.Cell.{Cell}
use Rattle.ct_base.specs.declared.cell.Kind.TheVariants.{Road}
use Rattle.ct_base.specs.declared.cell.Out.TheVariants.{Exit, To}
use Rattle.ct_base.specs.declared.net.Net.{Net}
use Rattle.ct_base.specs.declared.plan.Letter.{Letter}
use Rattle.ct_base.specs.declared.plan.Letter.TheVariants.{Green}
use Rattle.ct_base.specs.declared.plan.Plan.{Plan}
use Rattle.ct_base.specs.declared.signal.Signal.{Signal}
use Rattle.sparse_program.specs.Box.{Ranges, high_of, low_of}
use Rattle.sparse_program.specs.Program.{row_of}
use Rattle.sparse_program.specs.declared.row.Row.{Row}
use Rattle.traffic_model.specs.Delay.{delay_of, letters_at, step_delay}
use Rattle.traffic_model.specs.Flow.{flow, inflow, outflow}
use Rattle.traffic_model.specs.Occupancy.{initial_units, next_of, next_units, occupancies}
use Rattle.traffic_model.specs.Runs.{IsAdmissible, IsAdmissiblePlan, word_of}
use Rattle.program_model.specs.Columns.{bits_at, columns, columns_of_cell, columns_of_cells, letters_of, plan_columns}
use Rattle.program_model.specs.FlowRows.{flow_rows, flow_rows_at}
use Rattle.program_model.specs.Numbers.{first_column}
use Rattle.program_model.specs.Points.{program_of}
use Rattle.program_model.specs.RuleRows.{rule_rows, rule_rows_at}
use Rattle.program_model.specs.SwitchRows.{least_rows}
use Rattle.program_model.proofs.ColumnLaws.{Each, Each-at}
use Rattle.certificate_model.specs.Certificates.{Certifies, root_of}
use Rattle.certificate_model.specs.Leaves.{FixesPlan, IsCeiling, IsGoodEmpty, IsGoodFixed}
use Rattle.certificate_model.specs.Nodes.{LeafNode, Node, SplitNode, nodes_of}
use Rattle.certificate_model.specs.Reasons.{IsFirst, empty_reasons, pair_reasons, split_reasons}
use Rattle.certificate_model.specs.Text.{IsSpelled, IsSpelledPair, bound_in, certificate_text, node_in}
use Rattle.certificate_model.specs.Tree.{AtLeaf, Empty, Fixed, IsLeafOf, IsSplit, Priced, Split, Tree, left_of, right_of}
use Rattle.certificate_model.specs.Value.{AreLawful, IsSigned, most_price, value, value_of_pairs}
use Rattle.certificate_model.specs.Verdicts.{AtBound, AtNodes, Broken, IsVerdict}
use Rattle.certificate_model.specs.declared.verdict.Verdict.TheVariants.{Accepted, Rejected}
use Rattle.certificate_model.specs.declared.verdict.Why.TheVariants.{Form, Column, Range, Row as NoRow, Order, Price, Sign, Weak, NotEmpty}
use Rattle.certificate_model.proofs.SafeLaws.{bounds_are_safe}
use Rattle.certificate_model.proofs.VerdictLaws.{is_accepted}

-- one price is lawful where its row is there and allows it
one_price : (rows : List Row) (i : ℕ) (price : ℤ) → i < length rows → price ≢ pos 0 → unsigned_abs price ≤ most_price → IsSigned (row_of rows i) price → AreLawful rows ((i, price) ∷ [])
one_price rows i price there some within signed = record {
  there = All-cons (λ (pair : ℕ × ℤ). pair.0 < length rows) (i, price) [] there (All-nil (λ (pair : ℕ × ℤ). pair.0 < length rows));
  rises = λ j k d before inside. absurd (omega (arith, before, inside));
  some = All-cons (λ (pair : ℕ × ℤ). pair.1 ≢ pos 0) (i, price) [] some (All-nil (λ (pair : ℕ × ℤ). pair.1 ≢ pos 0));
  within = All-cons (λ (pair : ℕ × ℤ). unsigned_abs pair.1 ≤ most_price) (i, price) [] within (All-nil (λ (pair : ℕ × ℤ). unsigned_abs pair.1 ≤ most_price));
  signed = All-cons (λ (pair : ℕ × ℤ). IsSigned (row_of rows pair.0) pair.1) (i, price) [] signed (All-nil (λ (pair : ℕ × ℤ). IsSigned (row_of rows pair.0) pair.1));
}

-- what holds of the first of one
of_first : (P : ℕ → Type 0) → P 0 → (s : ℕ) → s < 1 → P s
of_first P here zero inside = here
of_first P here (suc s) inside = absurd (omega (arith, inside))

-- ---- ceilings

-- a value just above one unit, one unit, and a value just above less one unit
pub above_one : IsCeiling (pos 1025) (pos 2)
above_one = record { enough = omega (arith, ints); least = omega (arith, ints) }

pub at_one : IsCeiling (pos 1024) (pos 1)
at_one = record { enough = omega (arith, ints); least = omega (arith, ints) }

pub above_less_one : IsCeiling (negsuc 1022) (pos 0)
above_less_one = record { enough = omega (arith, ints); least = omega (arith, ints) }

-- ---- one priced leaf

-- one cell that holds three units, of which two leave in the one step
abbrev one_cell : Net
one_cell = record {
  steps = 1;
  cells = record { kind = Road; cap = 2; store = 3; wave_p = 1; wave_q = 1; gate = None; out = Exit; initial = 3; demand = [] } ∷ [];
  signals = [];
}

pub one_cell_value : value_of_pairs (program_of one_cell) true (root_of one_cell) ((1, pos 1024) ∷ []) ≡ pos 1024
unfolding join_below sum_below whole_sum_below table_of bits_at columns columns_of_cell columns_of_cells letters_of plan_columns rule_rows rule_rows_at flow_rows flow_rows_at first_column least_rows program_of value
one_cell_value = refl

-- its row 1 is there, and need not be equal
one_cell_rows : length (program_of one_cell).rows ≡ 5
unfolding join_below sum_below table_of bits_at columns columns_of_cell columns_of_cells letters_of plan_columns rule_rows rule_rows_at flow_rows flow_rows_at first_column least_rows program_of
one_cell_rows = refl

one_cell_row : (row_of (program_of one_cell).rows 1).equal ≡ false
unfolding join_below sum_below table_of bits_at columns columns_of_cell columns_of_cells letters_of plan_columns rule_rows rule_rows_at flow_rows flow_rows_at first_column least_rows program_of
one_cell_row = refl

-- so the bound 1 is certified by one leaf
pub one_cell_certified : Certifies one_cell (pos 1) (AtLeaf (Priced ((1, pos 1024) ∷ [])))
one_cell_certified = record {
  lawful = one_price (program_of one_cell).rows 1 (pos 1024) (omega (arith, one_cell_rows)) (λ same. absurd (cc)) (omega arith) (inr (omega (arith, ints)));
  number = pos 1;
  gives = record { enough = omega (arith, ints, one_cell_value); least = omega (arith, ints, one_cell_value) };
  enough = omega (arith, ints);
}

-- it is valid
one_cell_valid : IsValid one_cell
one_cell_valid = record {
  steps = (omega arith, omega arith);
  cells = (omega arith, omega arith);
  signals = omega arith;
  each_signal = λ s d inside. absurd (omega (arith, inside));
  each_cell = of_first (λ i. IsCell one_cell i (cell_of one_cell.cells i))
      (record {
        cap = (omega arith, omega arith);
        kind = record { store = (omega arith, omega arith); wave_p = (omega arith, omega arith); wave_q = omega arith; initial = omega arith; demand = refl };
        gate = tt;
        targets = λ k d inside. absurd (omega (arith, inside));
        split = tt;
      });
  merges = λ i inside k within apart. absurd (apart (omega (arith, inside, within)));
}

-- its only plan has no word, and the delay 1
one_cell_plan : IsAdmissiblePlan one_cell (record { words = [] })
one_cell_plan = record {
  words = record { one_per_signal = refl; letters = λ s inside. absurd (omega (arith, inside)) };
  each = λ s inside. absurd (omega (arith, inside));
}

one_cell_delay : delay_of one_cell.cells (letters_at []) 1 ≡ 1
unfolding sum_below table_of flow outflow inflow initial_units next_of next_units occupancies step_delay delay_of letters_at
one_cell_delay = refl

-- so no tree certifies more
pub one_cell_best : (bound : ℤ) (tree : Tree) → Certifies one_cell bound tree → bound ≤ℤ pos 1
one_cell_best bound tree certifies = omega (arith, ints, one_cell_delay, bounds_are_safe one_cell bound tree (record { words = [] }) one_cell_valid certifies one_cell_plan)

-- a price below 0 is refused there
pub one_cell_refused : AreLawful (program_of one_cell).rows ((1, negsuc 1023) ∷ []) → ⊥
one_cell_refused lawful = elim (lawful.signed 0 (0, pos 0) (omega arith)) [ inl equal ↦ absurd (cc (equal, one_cell_row)) | inr above ↦ absurd (omega (arith, ints, above)) ]

-- one unit where two might leave: without prices its flow counts for two, and a price on the row of its units sets that right
abbrev one_unit : Net
one_unit = record {
  steps = 1;
  cells = record { kind = Road; cap = 2; store = 3; wave_p = 1; wave_q = 1; gate = None; out = Exit; initial = 1; demand = [] } ∷ [];
  signals = [];
}

pub one_unit_unpriced : value_of_pairs (program_of one_unit) true (root_of one_unit) [] ≡ negsuc 1023
unfolding join_below sum_below whole_sum_below table_of bits_at columns columns_of_cell columns_of_cells letters_of plan_columns rule_rows rule_rows_at flow_rows flow_rows_at first_column least_rows program_of value
one_unit_unpriced = refl

pub one_unit_priced : value_of_pairs (program_of one_unit) true (root_of one_unit) ((2, pos 1024) ∷ []) ≡ pos 0
unfolding join_below sum_below whole_sum_below table_of bits_at columns columns_of_cell columns_of_cells letters_of plan_columns rule_rows rule_rows_at flow_rows flow_rows_at first_column least_rows program_of value
one_unit_priced = refl

-- ---- a tree

-- two cells that lead into a third, by turns
abbrev gated : ℕ → Cell
gated greens = record { kind = Road; cap = 1; store = 2; wave_p = 1; wave_q = 1; gate = Some (record { signal = 0; greens = greens }); out = To 2; initial = 1; demand = [] }

abbrev turns : Signal
turns = record { start = 0; phases = (record { min = 1; max = 2; clear = 0; next = 2 }) ∷ (record { min = 1; max = 2; clear = 0; next = 1 }) ∷ [] }

abbrev by_turns : Net
by_turns = record {
  steps = 3;
  cells = gated 1 ∷ gated 2 ∷ (record { kind = Road; cap = 1; store = 2; wave_p = 1; wave_q = 1; gate = None; out = Exit; initial = 0; demand = [] }) ∷ [];
  signals = turns ∷ [];
}

by_turns_rows : length (program_of by_turns).rows ≡ 72
unfolding join_below sum_below table_of bits_at columns columns_of_cell columns_of_cells letters_of plan_columns rule_rows rule_rows_at flow_rows flow_rows_at first_column least_rows program_of
by_turns_rows = refl

-- the sides of a split of a bit: it is off, or on
abbrev off : Ranges → ℕ → Ranges
off box j = left_of box j (pos 0)

abbrev on : Ranges → ℕ → Ranges
on box j = right_of box j (pos 0)

abbrev root : Ranges
root = root_of by_turns

-- a bit that is free is split at 0
split_bit : (box : Ranges) (j : ℕ) → length box.lows ≡ 48 → low_of box j ≡ pos 0 → high_of box j ≡ pos 1 → j < 48 → IsSplit box j (pos 0)
split_bit box j long low high there = record { there = omega (arith, long, there); low = omega (arith, ints, low); high = omega (arith, ints, high) }

-- one lawful price whose value is 1 shows that a box is empty
empty_by : (box : Ranges) (i : ℕ) (price : ℤ) → i < 72 → price ≢ pos 0 → unsigned_abs price ≤ most_price → IsSigned (row_of (program_of by_turns).rows i) price →
    value_of_pairs (program_of by_turns) false box ((i, price) ∷ []) ≡ pos 1 → IsGoodEmpty by_turns box ((i, price) ∷ [])
empty_by box i price there some within signed is = record {
  lawful = one_price (program_of by_turns).rows i price (omega (arith, there, by_turns_rows)) some within signed;
  above = omega (arith, ints, is);
}

-- ---- its plans

-- the plan of one word
abbrev plan_of : List Letter → Plan
plan_of word = record { words = word ∷ [] }

-- a word of three letters is a plan
one_word : (word : List Letter) → length word ≡ 3 → IsAdmissible turns word → IsAdmissiblePlan by_turns (plan_of word)
one_word word long admissible = record {
  words = record { one_per_signal = refl; letters = of_first (λ s. length (word_of (plan_of word) s) ≡ 3) long };
  each = of_first (λ s. IsAdmissible (signal_of by_turns.signals s) (word_of (plan_of word) s)) admissible;
}

-- one green after another, the second for two steps, the first for two steps: their words and delays
abbrev then_twice : List Letter
then_twice = Green 0 ∷ Green 1 ∷ Green 1 ∷ []

then_twice_admissible : IsAdmissible turns then_twice
then_twice_admissible = record { runs = (record { phase = 0; green = 1 }) ∷ (record { phase = 1; green = 2 }) ∷ []; rest = []; are_runs = (record { phase = omega arith; may_stand = refl; green = (omega arith, omega arith) }, (record { phase = omega arith; may_stand = refl; green = (omega arith, omega arith) }, tt)); begins = refl }

then_twice_delay : delay_of by_turns.cells (letters_at (then_twice ∷ [])) 3 ≡ 1
unfolding sum_below table_of flow outflow inflow initial_units next_of next_units occupancies step_delay delay_of letters_at
then_twice_delay = refl

abbrev and_back : List Letter
and_back = Green 0 ∷ Green 1 ∷ Green 0 ∷ []

and_back_admissible : IsAdmissible turns and_back
and_back_admissible = record { runs = (record { phase = 0; green = 1 }) ∷ (record { phase = 1; green = 1 }) ∷ (record { phase = 0; green = 1 }) ∷ []; rest = []; are_runs = (record { phase = omega arith; may_stand = refl; green = (omega arith, omega arith) }, (record { phase = omega arith; may_stand = refl; green = (omega arith, omega arith) }, (record { phase = omega arith; may_stand = refl; green = (omega arith, omega arith) }, tt))); begins = refl }

and_back_delay : delay_of by_turns.cells (letters_at (and_back ∷ [])) 3 ≡ 1
unfolding sum_below table_of flow outflow inflow initial_units next_of next_units occupancies step_delay delay_of letters_at
and_back_delay = refl

abbrev twice_then : List Letter
twice_then = Green 0 ∷ Green 0 ∷ Green 1 ∷ []

twice_then_admissible : IsAdmissible turns twice_then
twice_then_admissible = record { runs = (record { phase = 0; green = 2 }) ∷ (record { phase = 1; green = 1 }) ∷ []; rest = []; are_runs = (record { phase = omega arith; may_stand = refl; green = (omega arith, omega arith) }, (record { phase = omega arith; may_stand = refl; green = (omega arith, omega arith) }, tt)); begins = refl }

twice_then_delay : delay_of by_turns.cells (letters_at (twice_then ∷ [])) 3 ≡ 2
unfolding sum_below table_of flow outflow inflow initial_units next_of next_units occupancies step_delay delay_of letters_at
twice_then_delay = refl

-- ---- its certificate

-- each fixed leaf, named by the word that its box leaves alone
fixed_then_twice_bits : FixesPlan by_turns (on (off (on (off root 2) 3) 4) 5) (plan_of then_twice)
unfolding join_below sum_below table_of bits_at columns columns_of_cell columns_of_cells letters_of plan_columns letters_at program_of
fixed_then_twice_bits = record { admissible = one_word then_twice refl then_twice_admissible; lows = refl; highs = refl }

fixed_then_twice : IsGoodFixed by_turns (pos 1) (on (off (on (off root 2) 3) 4) 5)
fixed_then_twice = record { plan = plan_of then_twice; fixes = fixed_then_twice_bits; enough = omega (arith, ints, then_twice_delay) }

fixed_and_back_bits : FixesPlan by_turns (off (on (on (off root 2) 3) 4) 5) (plan_of and_back)
unfolding join_below sum_below table_of bits_at columns columns_of_cell columns_of_cells letters_of plan_columns letters_at program_of
fixed_and_back_bits = record { admissible = one_word and_back refl and_back_admissible; lows = refl; highs = refl }

fixed_and_back : IsGoodFixed by_turns (pos 1) (off (on (on (off root 2) 3) 4) 5)
fixed_and_back = record { plan = plan_of and_back; fixes = fixed_and_back_bits; enough = omega (arith, ints, and_back_delay) }

fixed_twice_then_bits : FixesPlan by_turns (on (off (off (on root 2) 3) 4) 5) (plan_of twice_then)
unfolding join_below sum_below table_of bits_at columns columns_of_cell columns_of_cells letters_of plan_columns letters_at program_of
fixed_twice_then_bits = record { admissible = one_word twice_then refl twice_then_admissible; lows = refl; highs = refl }

fixed_twice_then : IsGoodFixed by_turns (pos 1) (on (off (off (on root 2) 3) 4) 5)
fixed_twice_then = record { plan = plan_of twice_then; fixes = fixed_twice_then_bits; enough = omega (arith, ints, twice_then_delay) }

-- by 8 splits and 9 leaves
abbrev pub by_turns_tree : Tree
by_turns_tree = Split 2 (pos 0) (Split 3 (pos 0) (AtLeaf (Empty ((5, pos 1) ∷ []))) (Split 4 (pos 0) (Split 5 (pos 0) (AtLeaf (Empty ((8, pos 1) ∷ []))) (AtLeaf Fixed)) (Split 5 (pos 0) (AtLeaf Fixed) (AtLeaf (Empty ((8, negsuc 0) ∷ [])))))) (Split 3 (pos 0) (Split 4 (pos 0) (Split 5 (pos 0) (AtLeaf (Empty ((8, pos 1) ∷ []))) (AtLeaf Fixed)) (AtLeaf (Empty ((3, pos 1) ∷ [])))) (AtLeaf (Empty ((5, negsuc 0) ∷ []))))

pub by_turns_certified : Certifies by_turns (pos 1) by_turns_tree
unfolding join_below sum_below whole_sum_below table_of bits_at columns columns_of_cell columns_of_cells letters_of plan_columns rule_rows rule_rows_at flow_rows flow_rows_at first_column least_rows program_of value
by_turns_certified = (
  split_bit _ 2 refl refl refl (omega arith),
  (
    split_bit _ 3 refl refl refl (omega arith),
    empty_by _ 5 (pos 1) (omega arith) (λ same. absurd (cc)) (omega arith) (inr (omega (arith, ints))) refl,
    (split_bit _ 4 refl refl refl (omega arith), (split_bit _ 5 refl refl refl (omega arith), empty_by _ 8 (pos 1) (omega arith) (λ same. absurd (cc)) (omega arith) (inr (omega (arith, ints))) refl, fixed_then_twice), (split_bit _ 5 refl refl refl (omega arith), fixed_and_back, empty_by _ 8 (negsuc 0) (omega arith) (λ same. absurd (cc)) (omega arith) (inl refl) refl)),
  ),
  (
    split_bit _ 3 refl refl refl (omega arith),
    (split_bit _ 4 refl refl refl (omega arith), (split_bit _ 5 refl refl refl (omega arith), empty_by _ 8 (pos 1) (omega arith) (λ same. absurd (cc)) (omega arith) (inr (omega (arith, ints))) refl, fixed_twice_then), empty_by _ 3 (pos 1) (omega arith) (λ same. absurd (cc)) (omega arith) (inr (omega (arith, ints))) refl),
    empty_by _ 5 (negsuc 0) (omega arith) (λ same. absurd (cc)) (omega arith) (inl refl) refl,
  ),
)

-- the leaf of a b b stands in it
pub by_turns_leaf : IsLeafOf root by_turns_tree (on (off (on (off root 2) 3) 4) 5) Fixed
by_turns_leaf = inl (inr (inl (inr (refl, refl))))

-- and no priced leaf does
pub by_turns_unpriced : (inner : Ranges) (pairs : List (ℕ × ℤ)) → IsLeafOf root by_turns_tree inner (Priced pairs) → ⊥
by_turns_unpriced inner pairs (inl (inl (is, same))) = absurd (cc same)
by_turns_unpriced inner pairs (inl (inr (inl (inl (is, same))))) = absurd (cc same)
by_turns_unpriced inner pairs (inl (inr (inl (inr (is, same))))) = absurd (cc same)
by_turns_unpriced inner pairs (inl (inr (inr (inl (is, same))))) = absurd (cc same)
by_turns_unpriced inner pairs (inl (inr (inr (inr (is, same))))) = absurd (cc same)
by_turns_unpriced inner pairs (inr (inl (inl (inl (is, same))))) = absurd (cc same)
by_turns_unpriced inner pairs (inr (inl (inl (inr (is, same))))) = absurd (cc same)
by_turns_unpriced inner pairs (inr (inl (inr (is, same)))) = absurd (cc same)
by_turns_unpriced inner pairs (inr (inr (is, same))) = absurd (cc same)

-- ---- texts and verdicts

-- the text of the leaf of one cell
pub one_cell_text : certificate_text (pos 1) (nodes_of (AtLeaf (Priced ((1, pos 1024) ∷ [])))) ≡ codes "ctm-cert 1\nbound 1\npriced 1 1024\nend\n"
unfolding certificate_text digits
one_cell_text = refl

-- it is accepted
pub one_cell_accepted : IsVerdict one_cell (codes "ctm-cert 1\nbound 1\npriced 1 1024\nend\n") (Accepted (pos 1))
one_cell_accepted =
    let leaf : Node = LeafNode (Priced ((1, pos 1024) ∷ [])) in
    is_accepted one_cell (codes "ctm-cert 1\nbound 1\npriced 1 1024\nend\n") (pos 1) (record {
      tree = AtLeaf (Priced ((1, pos 1024) ∷ []));
      reads = record {
        written = sym one_cell_text;
        bound = omega arith;
        nodes = All-cons IsSpelled leaf [] (All-cons IsSpelledPair (1, pos 1024) [] (record { row = omega arith; some = λ same. absurd (cc); price = omega arith }) (All-nil IsSpelledPair)) (All-nil IsSpelled);
      };
      certifies = one_cell_certified;
    })

-- a bound above it breaks at the leaf, which gives the number 1
pub one_cell_weak : IsVerdict one_cell (codes "ctm-cert 1\nbound 2\npriced 1 1024\nend\n") (Rejected 3 (Weak (pos 1)))
unfolding lines_of bound_in node_in join_below sum_below whole_sum_below table_of bits_at columns columns_of_cell columns_of_cells letters_of plan_columns rule_rows rule_rows_at flow_rows flow_rows_at first_column least_rows program_of value
one_cell_weak = record {
  last = Broken 3 (Weak (pos 1));
  reached = (AtBound, (refl, (AtNodes (pos 2) (root_of one_cell ∷ []), (refl, (Broken 3 (Weak (pos 1)), (inr (Weak (pos 1), (refl, refl)), (Broken 3 (Weak (pos 1)), (refl, refl))))))));
  is = refl;
}

-- the reasons of pairs on its five rows, pair by pair: a price below 0 on a row that need not be equal, a row that is not above the
-- one before, a row that does not exist, and a price that is too great
pub one_cell_reasons : pair_reasons (program_of one_cell).rows 0 ((1, negsuc 0) ∷ (1, pos 1) ∷ (5, pos 1) ∷ (6, pos 1099511627777) ∷ []) ≡ Sign ∷ Order ∷ NoRow ∷ NoRow ∷ Price ∷ []
unfolding join_below sum_below table_of bits_at columns columns_of_cell columns_of_cells letters_of plan_columns rule_rows rule_rows_at flow_rows flow_rows_at first_column least_rows program_of
one_cell_reasons = refl

-- a split of a column that does not exist
pub one_cell_column : IsFirst Column (split_reasons (root_of one_cell) 4 (pos 0))
unfolding join_below sum_below table_of bits_at columns columns_of_cell columns_of_cells letters_of plan_columns rule_rows rule_rows_at flow_rows flow_rows_at first_column least_rows program_of
one_cell_column = refl

-- a split at the high of its column
pub one_cell_range : split_reasons (root_of one_cell) 1 (pos 2) ≡ Range ∷ []
unfolding join_below sum_below table_of bits_at columns columns_of_cell columns_of_cells letters_of plan_columns rule_rows rule_rows_at flow_rows flow_rows_at first_column least_rows program_of
one_cell_range = refl

-- an empty leaf whose value without costs is below 1
pub one_cell_not_empty : empty_reasons one_cell (root_of one_cell) [] ≡ NotEmpty (pos 0) ∷ []
unfolding join_below sum_below whole_sum_below table_of bits_at columns columns_of_cell columns_of_cells letters_of plan_columns rule_rows rule_rows_at flow_rows flow_rows_at first_column least_rows program_of value
one_cell_not_empty = refl

-- a price of 0 has no spelling, so its line is of no form
pub one_cell_form : IsVerdict one_cell (codes "ctm-cert 1\nbound 1\npriced 1 0\nend\n") (Rejected 3 Form)
unfolding lines_of bound_in node_in
one_cell_form = record {
  last = Broken 3 Form;
  reached = (AtBound, (refl, (AtNodes (pos 1) (root_of one_cell ∷ []), (refl, (Broken 3 Form, (refl, (Broken 3 Form, (refl, refl))))))));
  is = refl;
}

-- a text whose last line feed is missing
pub one_cell_cut : IsVerdict one_cell (codes "ctm-cert 1\nbound 1") (Rejected 2 Form)
unfolding lines_of
one_cell_cut = record { last = AtBound; reached = (AtBound, (refl, refl)); is = refl }

-- the text of the tree of turns
pub by_turns_text : certificate_text (pos 1) (nodes_of by_turns_tree) ≡ codes "ctm-cert 1\nbound 1\nsplit 2 0\nsplit 3 0\nempty 5 1\nsplit 4 0\nsplit 5 0\nempty 8 1\nfixed\nsplit 5 0\nfixed\nempty 8 -1\nsplit 3 0\nsplit 4 0\nsplit 5 0\nempty 8 1\nfixed\nempty 3 1\nempty 5 -1\nend\n"
unfolding certificate_text digits
by_turns_text = refl

-- a split of a bit has a spelling
split_spelled : (j : ℕ) → j < 48 → IsSpelled (SplitNode j (pos 0))
split_spelled j there = (omega (arith, there), omega arith)

-- and an empty leaf of one price
empty_spelled : (i : ℕ) (price : ℤ) → i < 72 → price ≢ pos 0 → unsigned_abs price ≤ 1 → IsSpelled (LeafNode (Empty ((i, price) ∷ [])))
empty_spelled i price there some one = All-cons IsSpelledPair (i, price) [] (record { row = omega (arith, there); some = some; price = omega (arith, one) }) (All-nil IsSpelledPair)

-- all nodes of the tree have one
by_turns_spelled : Each IsSpelled (nodes_of by_turns_tree)
by_turns_spelled = (
  split_spelled 2 (omega arith),
  (
    split_spelled 3 (omega arith),
    (
      empty_spelled 5 (pos 1) (omega arith) (λ same. absurd (cc)) (omega arith),
      (
        split_spelled 4 (omega arith),
        (
          split_spelled 5 (omega arith),
          (
            empty_spelled 8 (pos 1) (omega arith) (λ same. absurd (cc)) (omega arith),
            (
              tt,
              (
                split_spelled 5 (omega arith),
                (
                  tt,
                  (
                    empty_spelled 8 (negsuc 0) (omega arith) (λ same. absurd (cc)) (omega arith),
                    (
                      split_spelled 3 (omega arith),
                      (
                        split_spelled 4 (omega arith),
                        (
                          split_spelled 5 (omega arith),
                          (
                            empty_spelled 8 (pos 1) (omega arith) (λ same. absurd (cc)) (omega arith),
                            (tt, (empty_spelled 3 (pos 1) (omega arith) (λ same. absurd (cc)) (omega arith), (empty_spelled 5 (negsuc 0) (omega arith) (λ same. absurd (cc)) (omega arith), tt))),
                          ),
                        ),
                      ),
                    ),
                  ),
                ),
              ),
            ),
          ),
        ),
      ),
    ),
  ),
)

-- so it is accepted
pub by_turns_accepted : IsVerdict by_turns (certificate_text (pos 1) (nodes_of by_turns_tree)) (Accepted (pos 1))
by_turns_accepted = is_accepted by_turns (certificate_text (pos 1) (nodes_of by_turns_tree)) (pos 1) (record {
  tree = by_turns_tree;
  reads = record { written = refl; bound = omega arith; nodes = λ k d within. Each-at IsSpelled (nodes_of by_turns_tree) k d by_turns_spelled within };
  certifies = by_turns_certified;
})
