-- Where the columns of a network stand, as the code keeps it.
use Rattle.std.specs.Prelude.{◌≡◌, length}
use Rattle.listed.specs.Below.{table_of}
use Rattle.ct_base.specs.declared.net.Net.{Net}
use Rattle.program_model.specs.Columns.{has_room}
use Rattle.program_model.specs.Numbers.{bits_before, bits_of_step, cells_before, plan_count}
use Rattle.program_layout.specs.declared.layout.Layout.{Layout}

-- the layout is the network's
pub record IsLayout (net : Net) (layout : Layout) : Type 0 where
  pub plan : layout.plan ≡ plan_count net
  pub bits_of_step : layout.bits_of_step ≡ bits_of_step net.signals
  pub bits_before : layout.bits_before ≡ table_of (length net.signals) (bits_before net.signals)
  pub cells_of_step : layout.cells_of_step ≡ cells_before net.cells (length net.cells)
  pub cells_before : layout.cells_before ≡ table_of (length net.cells) (cells_before net.cells)
  pub rooms : layout.rooms ≡ table_of (length net.cells) (has_room net.cells)
