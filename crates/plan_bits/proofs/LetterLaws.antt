-- Laws of the bits of the letters of one signal: which letter shows them.
use Rattle.std.proofs.Common.{◌≡◌, ◌≢◌, inl, inr, ℕ, suc, ◌<◌, ◌≤◌, List, [], ◌∷◌, length, get_or, sum_by, refl, sym, ap, ◌∙◌, arith}
use Rattle.std.specs.Prelude.{ℤ, pos}
use Rattle.std.proofs.lemmas.Bool.{cases_Bool}
use Rattle.std.proofs.lemmas.List.{get_or-map}
use Rattle.std.proofs.lemmas.List.Sums.{sum_by-cons}
use Rattle.ct_base.specs.declared.plan.Letter.{Letter}
use Rattle.ct_base.specs.declared.plan.Letter.TheVariants.{Clear}
use Rattle.ct_base.specs.declared.signal.Signal.{Signal}
use Rattle.program_model.specs.Columns.{letters_of}
use Rattle.program_model.specs.Existence.{IsLetterOf}
use Rattle.program_model.specs.Values.{is_letter, one_where}
use Rattle.program_model.proofs.LetterSums.{is_letter-itself, is_letter-same, one_is_shown}
use Rattle.plan_bits.specs.inner.Parts.{IsAmong, bit_where, bits_where}

-- the bit of the letter that is shown is 1
own_bit : (letter : Letter) → bit_where letter letter ≡ pos 1
own_bit letter = rw (is_letter-itself letter) refl

-- and no other is
one_bit : (shown letter : Letter) → bit_where shown letter ≡ pos 1 → letter ≡ shown
one_bit shown letter is =
    elim (cases_Bool (is_letter letter shown)) [ inl same ↦ is_letter-same letter shown same | inr differs ↦ absurd (let none : bit_where shown letter ≡ pos 0 = rw differs refl in let both : pos 0 ≡ pos 1 = sym none ∙ is in cc) ]

-- a bit of a letter by its place
pub bit_at_place : (letters : List Letter) (shown : Letter) (place : ℕ) → place < length letters → get_or (bits_where letters shown) place (pos 0) ≡ bit_where shown (get_or letters place (Clear 0))
bit_at_place letters shown place inside = get_or-map (bit_where shown) letters place (Clear 0) (pos 0) inside

-- the bit of a letter among others
bit_among : (letters : List Letter) (letter : Letter) (among : IsAmong letters letter) (shown : Letter) → get_or (bits_where letters shown) among.place (pos 0) ≡ bit_where shown letter
bit_among letters letter among shown = bit_at_place letters shown among.place among.inside ∙ ap (bit_where shown) among.there

-- where no bit is 1 no letter is shown
pub none_is_shown : (letters : List Letter) (bits : List ℤ) (letter : Letter) → ((k : ℕ) → k < length letters → get_or bits k (pos 0) ≢ pos 1) → IsAmong letters letter → bits ≢ bits_where letters letter
none_is_shown letters bits letter each among is =
    each among.place among.inside (ap (λ (values : List ℤ). get_or values among.place (pos 0)) is ∙ bit_among letters letter among letter ∙ own_bit letter)

-- a letter whose bit is 1 is the one that is shown
pub first_is_shown : (letters : List Letter) (bits : List ℤ) (letter : Letter) (place : ℕ) → place < length letters → get_or bits place (pos 0) ≡ pos 1 → bits ≡ bits_where letters letter → get_or letters place (Clear 0) ≡ letter
first_is_shown letters bits letter place inside one is =
    one_bit letter (get_or letters place (Clear 0)) (sym (bit_at_place letters letter place inside) ∙ ap (λ (values : List ℤ). get_or values place (pos 0)) (sym is) ∙ one)

-- letters with the same bits are the same
pub same_letter : (letters : List Letter) (letter other : Letter) → IsAmong letters letter → bits_where letters letter ≡ bits_where letters other → letter ≡ other
same_letter letters letter other among same =
    one_bit other letter (sym (bit_among letters letter among other) ∙ ap (λ (values : List ℤ). get_or values among.place (pos 0)) (sym same) ∙ bit_among letters letter among letter ∙ own_bit letter)

-- a letter that counts among some stands there
counted_is_among : (letter : Letter) (letters : List Letter) → 1 ≤ sum_by (λ other. one_where (is_letter other letter)) letters → IsAmong letters letter
counted_is_among letter [] some = absurd (omega (arith, some))
counted_is_among letter (other ∷ letters) some =
    elim (cases_Bool (is_letter other letter)) [
      | inl same ↦ record { place = 0; inside = omega arith; there = is_letter-same other letter same }
      | inr differs ↦
          let none : one_where (is_letter other letter) ≡ 0 = rw differs refl in
          let rest : IsAmong letters letter = counted_is_among letter letters (omega (arith, some, none, sum_by-cons (λ other. one_where (is_letter other letter)) other letters)) in
          record { place = suc rest.place; inside = (let inside = rest.inside in omega arith); there = rest.there }
    ]

-- a letter of a signal is among its letters
pub letter_is_among : (signal : Signal) (letter : Letter) → IsLetterOf signal letter → IsAmong (letters_of signal) letter
letter_is_among signal letter of = counted_is_among letter (letters_of signal) (omega (arith, one_is_shown signal letter of))
