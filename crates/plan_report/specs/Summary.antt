-- The lines that tell of a search (README.md, "Commands").
use Rattle.std.specs.Prelude.{ℕ, ℤ, List, ◌++◌, codes}
use Rattle.std.specs.Fmt.{decimal, signed_decimal}
use Rattle.solve_core.specs.declared.solved.State.{State}
use Rattle.solve_core.specs.declared.solved.State.TheVariants.{Optimal, StillOpen}

-- the word of a state
abbrev pub state_word : State → List ℕ
state_word Optimal = codes "optimal"
state_word StillOpen = codes "open"

-- the delay of a plan and a bound
unfoldable pub found_lines : ℕ → ℤ → List ℕ
found_lines delay bound = codes "delay " ++ decimal delay ++ codes "\nbound " ++ signed_decimal bound ++ codes "\n"

-- how many nodes a certificate has, and whether its bound is the delay
unfoldable pub end_lines : ℕ → State → List ℕ
end_lines nodes state = codes "nodes " ++ decimal nodes ++ codes "\nstate " ++ state_word state ++ codes "\n"

-- the delay of a plan, a bound, the nodes of its certificate and the state
abbrev pub summary_lines : (delay : ℕ) (bound : ℤ) (nodes : ℕ) (state : State) → List ℕ
summary_lines delay bound nodes state = found_lines delay bound ++ end_lines nodes state
