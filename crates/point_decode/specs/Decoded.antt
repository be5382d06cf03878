-- The plan that a list of values shows, and what a list is decoded to (docs/program.md, "From a point to its plan").
use Rattle.std.specs.Prelude.{ℕ, ℤ, pos, List, filter, length, Result, slice_index_or}
use Rattle.std.specs.Ordering.{int_eq}
use Rattle.listed.specs.Below.{table_of}
use Rattle.refusals.specs.Faults.{unless}
use Rattle.ct_base.specs.Access.{signal_of}
use Rattle.ct_base.specs.declared.net.Net.{Net}
use Rattle.ct_base.specs.declared.plan.Letter.{Letter}
use Rattle.ct_base.specs.declared.plan.Letter.TheVariants.{Clear}
use Rattle.ct_base.specs.declared.plan.Plan.{Plan}
use Rattle.traffic_model.specs.Delay.{delay_of, letters_at}
use Rattle.program_model.specs.Columns.{Bit, letters_of}
use Rattle.program_model.specs.Numbers.{number_of}
use Rattle.program_model.specs.Points.{program_of, value_at}
use Rattle.point_decode.specs.Breaks.{point_breaks}
use Rattle.point_decode.specs.declared.broken.Broken.{Broken}
use Rattle.point_decode.specs.declared.decoding.Decoded.{Decoded}

-- the letters of signal s whose bits are 1 at step t
abbrev pub letters_shown : Net → List ℤ → ℕ → ℕ → List Letter
letters_shown net point s t =
    filter (λ letter. int_eq (value_at point (number_of net (Bit t s letter))) (pos 1)) (letters_of (signal_of net.signals s))

-- the word of signal s: at each step the first letter whose bit is 1
abbrev pub word_shown : Net → List ℤ → ℕ → List Letter
word_shown net point s = table_of net.steps (λ t. slice_index_or (letters_shown net point s t) 0 (Clear 0))

-- the plan that a list shows: a word for each signal
unfoldable pub plan_shown : Net → List ℤ → Plan
plan_shown net point = record { words = table_of (length net.signals) (word_shown net point) }

-- the plan that a list shows, with its delay
abbrev pub shown_with_delay : Net → List ℤ → Decoded
shown_with_delay net point =
    record { plan = plan_shown net point; delay = delay_of net.cells (letters_at (plan_shown net point).words) net.steps }

-- what a list is decoded to: the plan that it shows, or the first thing that keeps it from being an integer point
unfoldable pub decoded : Net → List ℤ → Result Decoded Broken
decoded net point = unless (point_breaks (program_of net) point) (shown_with_delay net point)
