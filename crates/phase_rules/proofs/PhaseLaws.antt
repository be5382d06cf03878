-- What callers of this crate want to know of runs and words: the word of runs is admissible and has a letter for each step, an
-- admissible word is that of its greens, and no other runs give it.
use Rattle.std.proofs.Common.{◌≡◌, ℕ, List, length, map, Ok, sym, ap, ◌∙◌}
use Rattle.std.specs.Prelude.{◌^◌}
use Rattle.std.proofs.lemmas.List.{length-take-le}
use Rattle.ct_base.specs.Validity.{IsSignal}
use Rattle.ct_base.specs.declared.plan.Letter.{Letter}
use Rattle.ct_base.specs.declared.signal.Signal.{Signal}
use Rattle.traffic_model.specs.Runs.{IsAdmissible, Run, letters_of_runs}
use Rattle.phase_rules.specs.Expansion.{expanded, run_by}
use Rattle.phase_rules.specs.inner.Greens.{greens_of}
use Rattle.phase_rules.proofs.FitLaws.{Spell, expanded_from_spell, spell_from_expanded}
use Rattle.phase_rules.proofs.WordLaws.{admissible_from_spell, fit_fills, greens_from_fit, spell_from_admissible, start_has_phases}

-- the word of runs has a letter for each step
pub expanded_length : (signal : Signal) (runs : List Run) (steps : ℕ) (word : List Letter) → expanded signal runs steps ≡ Ok word → length word ≡ steps
expanded_length signal runs steps word is =
    let spell : Spell signal runs word steps = spell_from_expanded signal runs steps word is in
    sym (ap length spell.letters) ∙ length-take-le steps (letters_of_runs signal runs) (fit_fills signal (2 ^ signal.start) steps runs spell.fit)

-- the word of runs is admissible
pub expanded_is_admissible : (signal : Signal) (runs : List Run) (steps : ℕ) (word : List Letter) → IsSignal signal → expanded signal runs steps ≡ Ok word → IsAdmissible signal word
expanded_is_admissible signal runs steps word valid is = admissible_from_spell signal runs word steps valid (spell_from_expanded signal runs steps word is)

-- the runs of a word are its greens
pub runs_are_greens : (signal : Signal) (pairs : List (ℕ × ℕ)) (steps : ℕ) (word : List Letter) → IsSignal signal → expanded signal (map run_by pairs) steps ≡ Ok word → pairs ≡ greens_of word
runs_are_greens signal pairs steps word valid is =
    let spell : Spell signal (map run_by pairs) word steps = spell_from_expanded signal (map run_by pairs) steps word is in
    sym (ap greens_of (sym spell.letters) ∙ greens_from_fit signal (2 ^ signal.start) steps pairs valid (start_has_phases signal valid) spell.fit)

-- two lists of runs with one word are the same
pub expanded_once : (signal : Signal) (pairs others : List (ℕ × ℕ)) (steps : ℕ) (word : List Letter) → IsSignal signal →
    expanded signal (map run_by pairs) steps ≡ Ok word → expanded signal (map run_by others) steps ≡ Ok word → pairs ≡ others
expanded_once signal pairs others steps word valid is also = runs_are_greens signal pairs steps word valid is ∙ sym (runs_are_greens signal others steps word valid also)

-- an admissible word is that of its greens
pub every_admissible_word_has_runs : (signal : Signal) (word : List Letter) → IsSignal signal → IsAdmissible signal word → expanded signal (map run_by (greens_of word)) (length word) ≡ Ok word
every_admissible_word_has_runs signal word valid admissible =
    expanded_from_spell signal (map run_by (greens_of word)) (length word) word (spell_from_admissible signal word valid admissible)
