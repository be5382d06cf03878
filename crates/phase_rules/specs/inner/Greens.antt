-- The greens of a word: for each green that is as long as it can be, its phase and the number of its letters (docs/signals.md, "The runs of a plan").
use Rattle.std.specs.Prelude.{ℕ, ◌+◌, ◌==◌, if◌then◌else◌, List, [], ◌∷◌, ◌++◌, Option, None, Some, option_to_list}
use Rattle.ct_base.specs.declared.plan.Letter.{Letter}
use Rattle.ct_base.specs.declared.plan.Letter.TheVariants.{Green, Clear}

-- the green under way that a letter ends: none where there is none, or the letter makes it longer
abbrev pub ended : Option (ℕ × ℕ) → Letter → Option (ℕ × ℕ)
ended None letter = None
ended (Some green) (Green p) = if green.0 == p then None else Some green
ended (Some green) (Clear p) = Some green

-- the green under way after a letter
abbrev pub under_way : Option (ℕ × ℕ) → Letter → Option (ℕ × ℕ)
under_way None (Green p) = Some (p, 1)
under_way (Some green) (Green p) = if green.0 == p then Some (p, green.1 + 1) else Some (p, 1)
under_way current (Clear p) = None

-- the greens of the letters that are left, after a green under way, which they may make longer
abbrev pub greens_from : Option (ℕ × ℕ) → List Letter → List (ℕ × ℕ)
greens_from current [] = option_to_list current
greens_from current (letter ∷ word) = option_to_list (ended current letter) ++ greens_from (under_way current letter) word

-- the greens of a word
abbrev pub greens_of : List Letter → List (ℕ × ℕ)
greens_of word = greens_from None word
