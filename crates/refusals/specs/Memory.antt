-- Answers of functions that take memory.
use Rattle.std.specs.Prelude.{◌≡◌, ◌⊎◌, Result, Err}

-- an answer is the one that is deserved, or memory was wanting
abbrev pub OrMemory : {X E : Type 0} → E → Result X E → Result X E → Type 0
OrMemory memory deserved result = (result ≡ deserved) ⊎ (result ≡ Err memory)
