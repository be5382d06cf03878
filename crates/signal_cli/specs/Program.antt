-- What the program promises around the top call (README.md, "What is proved").
use Rattle.std.specs.Prelude.{◌≡◌, ℕ}
use Rattle.signal_cli.specs.Worlds.{World}

-- memory was wanting before the words were known: status 8, and nothing was done
abbrev pub EndsAtOnce : World → World → ℕ → Type 0
EndsAtOnce before after status = (status ≡ 8) × (after ≡ before)
