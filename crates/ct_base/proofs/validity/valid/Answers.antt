-- The merges decide where all else is valid.
use Rattle.std.proofs.Common.{sym, ◌∙◌}
use Rattle.ct_base.proofs.validity.valid.Goals as goal
use Rattle.ct_base.proofs.validity.valid.Goals.{then-is_within_limits, else-is_within_limits, then-are_signals, else-are_signals}

pub returns-then-are_cells : goal.returns-then-are_cells
returns-then-are_cells c =
    let merges = rw c.as_slice-then-are_cells.ensures at c.are_merges_separated.ensures in
    elim c.if-are_signals.branch [
      | then-are_signals cells ↦
          elim c.if-is_within_limits.branch [
            | then-is_within_limits w ↦
                let limits = c.is_within_limits.ensures.0 w.if-is_within_limits.true in
                let signals = rw w.as_slice.ensures at w.are_signals.ensures in (
                  λ yes. record {
                    steps = limits.0;
                    cells = limits.1;
                    signals = limits.2;
                    each_signal = signals.0 (sym w.value-is ∙ cells.if-are_signals.true);
                    each_cell = cells.are_cells.ensures.0 (sym cells.value-is ∙ c.if-are_cells.true);
                    merges = merges.0 yes;
                  },
                  λ valid. merges.1 valid.merges,
                )
            | else-is_within_limits w ↦ absurd cc
          ]
      | else-are_signals w ↦ absurd cc
    ]
