-- The rule rows of a signal at a step, kind by kind, and those of all signals.
use Rattle.std.proofs.Common.{◌≡◌, ℕ, ◌+◌, ◌≤◌, List, length, subst}
use Rattle.listed.specs.Below.{join_below}
use Rattle.ct_base.specs.Access.{signal_of}
use Rattle.ct_base.specs.declared.net.Net.{Net}
use Rattle.ct_base.specs.declared.signal.Signal.{Signal}
use Rattle.sparse_program.specs.Program.{Begun}
use Rattle.sparse_program.specs.declared.limits.TheConstants.{MAX_ROWS}
use Rattle.program_model.specs.Columns.{Column}
use Rattle.program_model.specs.Numbers.{plan_count}
use Rattle.program_model.specs.Rows.{SumRow}
use Rattle.program_model.specs.RuleRows.{rule_rows, rule_rows_at}
use Rattle.lo_program.specs.inner.Adding.{Adds, AddsFront, Fits}
use Rattle.lo_program.specs.inner.Kinds.{rows_at}
use Rattle.lo_program.proofs.RuleBits.{rule_rows_below}

abbrev pub Rows : Type 0
Rows = List (SumRow Column)

-- the rows of a step are those of all kinds
pub kinds_fit : (net : Net) (program : Begun) (signal : Signal) (steps s t : ℕ) → Fits net program (rule_rows_at signal steps s t) → Fits net program (join_below 6 (rows_at signal steps s t))
unfolding rule_rows_at join_below
kinds_fit net program signal steps s t fits = fits

pub kinds_added : (net : Net) (a b : Begun) (signal : Signal) (steps s t n : ℕ) → n ≡ 6 → Adds net a b (join_below n (rows_at signal steps s t)) → Adds net a b (rule_rows_at signal steps s t)
unfolding rule_rows_at join_below
kinds_added net a b signal steps s t n all added = subst (λ m. Adds net a b (join_below m (rows_at signal steps s t))) all added

pub kinds_front : (net : Net) (a b : Begun) (signal : Signal) (steps s t : ℕ) → AddsFront net a b (join_below 6 (rows_at signal steps s t)) → AddsFront net a b (rule_rows_at signal steps s t)
unfolding rule_rows_at join_below
kinds_front net a b signal steps s t front = front

-- ---- all signals

-- the rows of a signal, step by step
abbrev pub rows_of_signal : Net → ℕ → Rows
rows_of_signal net s = join_below net.steps (rule_rows_at (signal_of net.signals s) net.steps s)

pub rules_fit : (net : Net) (program : Begun) → plan_count net ≤ length program.columns → length program.rows + length (rule_rows net) ≤ MAX_ROWS →
    Fits net program (join_below (length net.signals) (rows_of_signal net))
unfolding rule_rows
rules_fit net program plan few = record { few = few; there = rule_rows_below net (length program.columns) plan }

pub rules_added : (net : Net) (a b : Begun) (n : ℕ) → n ≡ length net.signals → Adds net a b (join_below n (rows_of_signal net)) → Adds net a b (rule_rows net)
unfolding rule_rows
rules_added net a b n all added = subst (λ m. Adds net a b (join_below m (rows_of_signal net))) all added

pub rules_front : (net : Net) (a b : Begun) → AddsFront net a b (join_below (length net.signals) (rows_of_signal net)) → AddsFront net a b (rule_rows net)
unfolding rule_rows
rules_front net a b front = front
