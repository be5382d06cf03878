-- The programs of small networks, worked by hand (docs/program.md, "Worked by hand").
use Rattle.std.proofs.Common.{◌≡◌, refl, ℕ, true, false, List, [], ◌∷◌, Some, None, map, length}
use Rattle.std.specs.Prelude.{ℤ, pos, negsuc}
use Rattle.listed.specs.Below.{join_below, sum_below, table_of}
use Rattle.ct_base.specs.declared.cell.Cell.{Cell}
use Rattle.ct_base.specs.declared.cell.Kind.TheVariants.{Queue, Road}
use Rattle.ct_base.specs.declared.cell.Out.TheVariants.{Exit, To}
use Rattle.ct_base.specs.declared.net.Net.{Net}
use Rattle.program_model.specs.Columns.{bits_at, columns, columns_of_cell, columns_of_cells, letters_of, plan_columns}
use Rattle.program_model.specs.FlowRows.{flow_rows, flow_rows_at}
use Rattle.program_model.specs.Numbers.{first_column, number_of}
use Rattle.program_model.specs.RuleRows.{rule_rows, rule_rows_at}
use Rattle.program_model.specs.SwitchRows.{least_rows}
use Rattle.program_model.specs.Sparse.{sparse}
use Rattle.sparse_program.specs.declared.row.Row.{Row}

-- a row that is equal to its right side, and one that is at least that
abbrev eq : ℤ → List (ℕ × ℤ) → Row
eq rhs terms = record { equal = true; rhs = rhs; terms = terms }

abbrev ge : ℤ → List (ℕ × ℤ) → Row
ge rhs terms = record { equal = false; rhs = rhs; terms = terms }

-- one cell that holds three units, of which two leave in the one step
abbrev one_cell : Net
one_cell = record {
  steps = 1;
  cells = record { kind = Road; cap = 2; store = 3; wave_p = 1; wave_q = 1; gate = None; out = Exit; initial = 3; demand = [] } ∷ [];
  signals = [];
}

pub one_cell_rows : map (sparse (number_of one_cell)) (flow_rows one_cell) ≡
    eq (pos 1) ((2, pos 1) ∷ (3, pos 1) ∷ [])
    ∷ ge (negsuc 1) ((1, negsuc 0) ∷ (3, negsuc 0) ∷ [])
    ∷ ge (pos 0) ((0, pos 1) ∷ (1, negsuc 0) ∷ [])
    ∷ ge (pos 0) ((1, pos 1) ∷ (2, negsuc 1) ∷ [])
    ∷ ge (negsuc 2) ((0, negsuc 0) ∷ (1, pos 1) ∷ (3, negsuc 2) ∷ [])
    ∷ []
unfolding join_below sum_below table_of bits_at columns columns_of_cell columns_of_cells letters_of plan_columns flow_rows flow_rows_at first_column least_rows
one_cell_rows = refl

-- two cells that lead into a third, by turns
abbrev gated : ℕ → Cell
gated greens = record { kind = Road; cap = 1; store = 2; wave_p = 1; wave_q = 1; gate = Some (record { signal = 0; greens = greens }); out = To 2; initial = 1; demand = [] }

abbrev by_turns : Net
by_turns = record {
  steps = 3;
  cells = gated 1 ∷ gated 2 ∷ (record { kind = Road; cap = 1; store = 2; wave_p = 1; wave_q = 1; gate = None; out = Exit; initial = 0; demand = [] }) ∷ [];
  signals = (record { start = 0; phases = (record { min = 1; max = 2; clear = 0; next = 2 }) ∷ (record { min = 1; max = 2; clear = 0; next = 1 }) ∷ [] }) ∷ [];
}

pub by_turns_columns : length (columns by_turns) ≡ 48
unfolding join_below sum_below table_of bits_at columns columns_of_cell columns_of_cells letters_of plan_columns
by_turns_columns = refl

pub by_turns_rule_rows : map (sparse (number_of by_turns)) (rule_rows by_turns) ≡
    eq (pos 1) ((0, pos 1) ∷ (1, pos 1) ∷ [])
    ∷ ge (pos 0) ((0, negsuc 0) ∷ (2, pos 1) ∷ (3, pos 1) ∷ [])
    ∷ ge (pos 0) ((1, negsuc 0) ∷ (2, pos 1) ∷ (3, pos 1) ∷ [])
    ∷ ge (negsuc 1) ((0, negsuc 0) ∷ (2, negsuc 0) ∷ (4, negsuc 0) ∷ [])
    ∷ ge (negsuc 1) ((1, negsuc 0) ∷ (3, negsuc 0) ∷ (5, negsuc 0) ∷ [])
    ∷ eq (pos 1) ((2, pos 1) ∷ (3, pos 1) ∷ [])
    ∷ ge (pos 0) ((2, negsuc 0) ∷ (4, pos 1) ∷ (5, pos 1) ∷ [])
    ∷ ge (pos 0) ((3, negsuc 0) ∷ (4, pos 1) ∷ (5, pos 1) ∷ [])
    ∷ eq (pos 1) ((4, pos 1) ∷ (5, pos 1) ∷ [])
    ∷ []
unfolding join_below sum_below table_of bits_at letters_of rule_rows rule_rows_at
by_turns_rule_rows = refl

pub by_turns_flow_rows : length (flow_rows by_turns) ≡ 63
unfolding join_below sum_below table_of flow_rows flow_rows_at least_rows
by_turns_flow_rows = refl

-- the rows of the first cell in the first step: its switches, the terms from below and from above, and what it holds next
pub by_turns_first_cell : map (sparse (number_of by_turns)) (flow_rows_at by_turns 0 0) ≡
    eq (pos 1) ((8, pos 1) ∷ (9, pos 1) ∷ (10, pos 1) ∷ [])
    ∷ ge (pos 0) ((0, pos 1) ∷ (7, negsuc 0) ∷ (9, negsuc 0) ∷ (10, negsuc 0) ∷ [])
    ∷ ge (pos 0) ((6, pos 1) ∷ (7, negsuc 0) ∷ (10, negsuc 0) ∷ [])
    ∷ ge (negsuc 1) ((7, negsuc 0) ∷ (16, negsuc 0) ∷ [])
    ∷ ge (negsuc 0) ((0, negsuc 0) ∷ (7, pos 1) ∷ (8, negsuc 0) ∷ [])
    ∷ ge (negsuc 0) ((6, negsuc 0) ∷ (7, pos 1) ∷ (9, negsuc 0) ∷ [])
    ∷ ge (pos 0) ((7, pos 1) ∷ (10, negsuc 1) ∷ (16, pos 1) ∷ [])
    ∷ eq (pos 0) ((6, negsuc 0) ∷ (7, pos 1) ∷ (20, pos 1) ∷ [])
    ∷ []
unfolding join_below sum_below table_of bits_at columns columns_of_cell columns_of_cells letters_of plan_columns flow_rows_at first_column least_rows
by_turns_first_cell = refl

-- a queue before a cell, and a cell behind it that takes one unit a step and sends waves back at half the free-flow speed
abbrev bottleneck : Net
bottleneck = record {
  steps = 6;
  cells =
      (record { kind = Queue; cap = 2; store = 0; wave_p = 1; wave_q = 1; gate = None; out = To 1; initial = 0; demand = 2 ∷ 0 ∷ 0 ∷ 0 ∷ 0 ∷ 0 ∷ [] })
      ∷ (record { kind = Road; cap = 2; store = 4; wave_p = 1; wave_q = 1; gate = None; out = To 2; initial = 0; demand = [] })
      ∷ (record { kind = Road; cap = 1; store = 2; wave_p = 1; wave_q = 2; gate = None; out = Exit; initial = 0; demand = [] })
      ∷ [];
  signals = [];
}

pub bottleneck_columns : length (columns bottleneck) ≡ 96
unfolding join_below sum_below table_of bits_at columns columns_of_cell columns_of_cells letters_of plan_columns
bottleneck_columns = refl

pub bottleneck_rows : length (flow_rows bottleneck) ≡ 135
unfolding join_below sum_below table_of flow_rows flow_rows_at least_rows
bottleneck_rows = refl
