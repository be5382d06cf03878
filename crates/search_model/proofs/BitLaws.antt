-- The plan columns of a network are bits: each is between 0 and 1 in the box of all points.
use Rattle.std.proofs.Common.{◌≡◌, ℕ, zero, suc, ◌<◌, ◌≤◌, Bool, true, false, List, [], ◌∷◌, length, map, get_or, ap, ◌∙◌, sym, arith}
use Rattle.std.specs.Prelude.{pos}
use Rattle.std.proofs.lemmas.Int.{ints}
use Rattle.std.proofs.lemmas.List.{get_or_append_left, get_or-map, length-append, length-map}
use Rattle.listed.specs.Below.{join_below}
use Rattle.ct_base.specs.Access.{signal_of}
use Rattle.ct_base.specs.declared.net.Net.{Net}
use Rattle.ct_base.specs.declared.plan.Letter.{Letter}
use Rattle.ct_base.specs.declared.plan.Letter.TheVariants.{Green}
use Rattle.sparse_program.specs.Box.{high_of, low_of}
use Rattle.sparse_program.specs.Program.{col_of, no_col}
use Rattle.sparse_program.specs.declared.column.Col.{Col}
use Rattle.program_model.specs.Columns.{Bit, Column, Units, bits_at, columns, columns_of_cells, letters_of, plan_columns}
use Rattle.program_model.specs.Numbers.{plan_count}
use Rattle.program_model.specs.Points.{col, program_of}
use Rattle.program_model.specs.Values.{is_letter, most_of, one_where}
use Rattle.program_model.proofs.ColumnLaws.{Each, Each-at, Each-join_below}
use Rattle.program_model.proofs.NumberLaws.{length-plan_columns}
use Rattle.certificate_model.specs.Certificates.{root_of}
use Rattle.certificate_model.proofs.PointLaws.{columns_there}
use Rattle.search_model.specs.Splits.{HasBits}

-- a column counts at most 1
abbrev AtMostOne : Net → Column → Type 0
AtMostOne net c = most_of net c ≤ 1

at_most_one : (holds : Bool) → one_where holds ≤ 1
at_most_one true = omega arith
at_most_one false = omega arith

bit_is : (net : Net) (t s : ℕ) (letter : Letter) → AtMostOne net (Bit t s letter)
bit_is net zero s letter = at_most_one (is_letter letter (Green (signal_of net.signals s).start))
bit_is net (suc t) s letter = omega arith

bits_of_letters : (net : Net) (t s : ℕ) (letters : List Letter) → Each (AtMostOne net) (map (Bit t s) letters)
bits_of_letters net t s [] = tt
bits_of_letters net t s (letter ∷ letters) = (bit_is net t s letter, bits_of_letters net t s letters)

bits_are : (net : Net) → Each (AtMostOne net) (plan_columns net)
unfolding plan_columns bits_at
bits_are net =
    Each-join_below (AtMostOne net) net.steps _
    (λ t before. Each-join_below (AtMostOne net) (length net.signals) _ (λ s inside. bits_of_letters net t s (letters_of (signal_of net.signals s))))

-- the plan columns stand first
pub plan_columns_first : (net : Net) (j : ℕ) → j < plan_count net → get_or (columns net) j (Units 0 0) ≡ get_or (plan_columns net) j (Units 0 0)
unfolding columns
plan_columns_first net j inside =
    get_or_append_left (plan_columns net) (join_below net.steps (columns_of_cells net.cells)) (Units 0 0) j (omega (arith, inside, length-plan_columns net))

fewer : (net : Net) → plan_count net ≤ length (columns net)
unfolding columns
fewer net = let both = length-append (plan_columns net) (join_below net.steps (columns_of_cells net.cells)) in omega (arith, both, length-plan_columns net)

-- the bounds of a plan column
column_is : (net : Net) (j : ℕ) → j < plan_count net → col_of (program_of net).columns j ≡ col net (get_or (plan_columns net) j (Units 0 0))
unfolding program_of
column_is net j inside =
    get_or-map (col net) (columns net) j (Units 0 0) no_col (omega (arith, inside, fewer net)) ∙ ap (col net) (plan_columns_first net j inside)

pub root_has_bits : (net : Net) → HasBits net (root_of net)
root_has_bits net =
    let there : plan_count net ≤ length (program_of net).columns = omega (arith, fewer net, columns_there net) in
    let lows : length (root_of net).lows ≡ length (program_of net).columns = length-map (program_of net).columns (λ (c : Col). c.low) in
    let highs : length (root_of net).highs ≡ length (program_of net).columns = length-map (program_of net).columns (λ (c : Col). c.high) in
    record {
      there = omega (arith, there, lows);
      same = highs ∙ sym lows;
      low = λ j inside.
          let low : low_of (root_of net) j ≡ (col_of (program_of net).columns j).low = get_or-map (λ (c : Col). c.low) (program_of net).columns j no_col (pos 0) (omega (arith, inside, there)) in
          rw low (rw (column_is net j inside) (omega (arith, ints)));
      high = λ j inside.
          let high : high_of (root_of net) j ≡ (col_of (program_of net).columns j).high = get_or-map (λ (c : Col). c.high) (program_of net).columns j no_col (pos 0) (omega (arith, inside, there)) in
          let most : most_of net (get_or (plan_columns net) j (Units 0 0)) ≤ 1 = Each-at (AtMostOne net) (plan_columns net) j (Units 0 0) (bits_are net) (omega (arith, inside, length-plan_columns net)) in
          rw high (rw (column_is net j inside) (omega (arith, ints, most)));
    }
