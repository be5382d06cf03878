-- A word as segments, each of one letter that stands for some steps: what its letters keep from step to step.
use Rattle.std.proofs.Common.{◌≡◌, ◌≢◌, inl, inr, ℕ, zero, suc, ◌+◌, ◌-◌, ◌<◌, ◌≤◌, true, List, [], ◌∷◌, length, get_or, replicate, refl, ap, ◌∙◌, sym, arith}
use Rattle.std.specs.List.{flat_map}
use Rattle.std.specs.Prelude.{◌==◌}
use Rattle.std.proofs.lemmas.Bool.{cases_lt, eq-eqb, or_left}
use Rattle.std.proofs.lemmas.List.{get_or_append_left, get_or-append_right, get_or-replicate, length-append, length-replicate}
use Rattle.ct_base.specs.Access.{phase_of}
use Rattle.ct_base.specs.declared.plan.Letter.{Letter}
use Rattle.ct_base.specs.declared.plan.Letter.TheVariants.{Green, Clear}
use Rattle.ct_base.specs.declared.signal.Signal.{Signal}
use Rattle.program_model.specs.Existence.{IsLetterOf}
use Rattle.program_model.specs.RuleRows.{may_follow}

-- for how many steps a letter stands, at the least and at the most
abbrev pub least_steps : Signal → Letter → ℕ
least_steps signal (Green p) = (phase_of signal p).min
least_steps signal (Clear p) = (phase_of signal p).clear

abbrev pub most_steps : Signal → Letter → ℕ
most_steps signal (Green p) = (phase_of signal p).max
most_steps signal (Clear p) = (phase_of signal p).clear

-- a letter, and for how many steps it stands
pub record Segment : Type 0 where
  pub letter : Letter
  pub steps : ℕ

abbrev pub letters_of_segment : Segment → List Letter
letters_of_segment segment = replicate segment.steps segment.letter

abbrev pub letters_of_segments : List Segment → List Letter
letters_of_segments segments = flat_map letters_of_segment segments

pub record IsSegment (signal : Signal) (segment : Segment) : Type 0 where
  pub letter : IsLetterOf signal segment.letter
  pub some : 1 ≤ segment.steps
  pub least : least_steps signal segment.letter ≤ segment.steps
  pub most : segment.steps ≤ most_steps signal segment.letter

-- the next segment, where there is one, has another letter, which may follow
abbrev pub MayStandBefore : Signal → Letter → List Segment → Type 0
MayStandBefore signal letter [] = Unit {0}
MayStandBefore signal letter (segment ∷ segments) = (may_follow signal letter segment.letter ≡ true) × (segment.letter ≢ letter)

abbrev pub AreSegments : Signal → List Segment → Type 0
AreSegments signal [] = Unit {0}
AreSegments signal (segment ∷ segments) = IsSegment signal segment × MayStandBefore signal segment.letter segments × AreSegments signal segments

-- the letter of a step
abbrev pub letter_in : List Letter → ℕ → Letter
letter_in letters t = get_or letters t (Clear 0)

-- ---- the letters of a segment and of those behind it

pub here : (segment : Segment) (segments : List Segment) (t : ℕ) → t < segment.steps → letter_in (letters_of_segments (segment ∷ segments)) t ≡ segment.letter
here segment segments t inside =
    get_or_append_left (letters_of_segment segment) (letters_of_segments segments) (Clear 0) t (rw length-replicate inside)
    ∙ get_or-replicate segment.steps t segment.letter (Clear 0) inside

behind : (segment : Segment) (segments : List Segment) (t : ℕ) → segment.steps ≤ t → letter_in (letters_of_segments (segment ∷ segments)) t ≡ letter_in (letters_of_segments segments) (t - segment.steps)
behind segment segments t past =
    get_or-append_right (letters_of_segment segment) (letters_of_segments segments) segment.steps t (Clear 0) (length-replicate segment.steps segment.letter) past

pub length-letters : (segment : Segment) (segments : List Segment) → length (letters_of_segments (segment ∷ segments)) ≡ segment.steps + length (letters_of_segments segments)
length-letters segment segments = rw (length-append, length-replicate)

-- the first letter behind a segment, where there is one
first_behind : (signal : Signal) (letter : Letter) (segments : List Segment) → MayStandBefore signal letter segments → AreSegments signal segments → 0 < length (letters_of_segments segments) →
    (may_follow signal letter (letter_in (letters_of_segments segments) 0) ≡ true) × (letter_in (letters_of_segments segments) 0 ≢ letter)
first_behind signal letter [] stands are some = absurd (omega arith)
first_behind signal letter (segment ∷ segments) stands are some =
    rw (here segment segments 0 (omega (arith, are.0.some))) stands

-- ---- what letters keep

-- each is a letter of the signal
pub letters_are_of : (signal : Signal) (segments : List Segment) → AreSegments signal segments → (t : ℕ) → t < length (letters_of_segments segments) →
    IsLetterOf signal (letter_in (letters_of_segments segments) t)
letters_are_of signal [] are t inside = absurd (omega arith)
letters_are_of signal (segment ∷ segments) are t inside =
    elim (cases_lt t segment.steps) [
      | inl within ↦ rw (here segment segments t within) are.0.letter
      | inr past ↦ rw (behind segment segments t past) (letters_are_of signal segments are.2 (t - segment.steps) (omega (arith, past, inside, length-letters segment segments)))
    ]

-- a letter may follow itself
follows_itself : (signal : Signal) (letter : Letter) → may_follow signal letter letter ≡ true
follows_itself signal (Green p) = or_left (p == p) _ (eq-eqb p p refl)
follows_itself signal (Clear p) = eq-eqb p p refl

-- each may follow the one before it
pub letters_follow : (signal : Signal) (segments : List Segment) → AreSegments signal segments → (t : ℕ) → t + 1 < length (letters_of_segments segments) →
    may_follow signal (letter_in (letters_of_segments segments) t) (letter_in (letters_of_segments segments) (t + 1)) ≡ true
letters_follow signal [] are t inside = absurd (omega arith)
letters_follow signal (segment ∷ segments) are t inside =
    elim (cases_lt (t + 1) segment.steps) [
      | inl within ↦ rw (here segment segments t (omega (arith, within)), here segment segments (t + 1) within) (follows_itself signal segment.letter)
      | inr past ↦ elim (cases_lt t segment.steps) [
        | inl last ↦
            let first : (may_follow signal segment.letter (letter_in (letters_of_segments segments) 0) ≡ true) × (letter_in (letters_of_segments segments) 0 ≢ segment.letter) =
            first_behind signal segment.letter segments are.1 are.2 (omega (arith, past, last, inside, length-letters segment segments)) in
            let at : t + 1 - segment.steps ≡ 0 = omega (arith, past, last) in
            rw (here segment segments t last, behind segment segments (t + 1) past, at) first.0
        | inr later ↦
            let at : t + 1 - segment.steps ≡ t - segment.steps + 1 = omega (arith, later) in
            rw (behind segment segments t later, behind segment segments (t + 1) past, at)
            (letters_follow signal segments are.2 (t - segment.steps) (omega (arith, later, inside, length-letters segment segments)))
      ]
    ]

-- the letter of step t is not that of the step before, where there is one
abbrev pub Begins : (ℕ → Letter) → ℕ → Type 0
Begins letter t = (s : ℕ) → suc s ≡ t → letter s ≢ letter t

-- a letter that begins stands for its least steps
pub letters_stay : (signal : Signal) (segments : List Segment) → AreSegments signal segments → (t k : ℕ) → t + k < length (letters_of_segments segments) →
    Begins (letter_in (letters_of_segments segments)) t → k < least_steps signal (letter_in (letters_of_segments segments) t) →
    letter_in (letters_of_segments segments) (t + k) ≡ letter_in (letters_of_segments segments) t
letters_stay signal [] are t k inside begins few = absurd (omega arith)
letters_stay signal (segment ∷ segments) are zero k inside begins few =
    let at : letter_in (letters_of_segments (segment ∷ segments)) 0 ≡ segment.letter = here segment segments 0 (omega (arith, are.0.some)) in
    let short : k < least_steps signal segment.letter = rw at at few in
    rw (at, here segment segments (0 + k) (omega (arith, short, are.0.least)))
letters_stay signal (segment ∷ segments) are (suc s) k inside begins few =
    elim (cases_lt (suc s) segment.steps) [
      | inl within ↦ absurd (begins s refl (here segment segments s (omega (arith, within)) ∙ sym (here segment segments (suc s) within)))
      | inr past ↦
          let shifted : suc s + k - segment.steps ≡ suc s - segment.steps + k = omega (arith, past) in
          let at : letter_in (letters_of_segments (segment ∷ segments)) (suc s) ≡ letter_in (letters_of_segments segments) (suc s - segment.steps) = behind segment segments (suc s) past in
          let short : k < least_steps signal (letter_in (letters_of_segments segments) (suc s - segment.steps)) = rw at at few in
          let still : letter_in (letters_of_segments segments) (suc s - segment.steps + k) ≡ letter_in (letters_of_segments segments) (suc s - segment.steps) =
          letters_stay signal segments are.2 (suc s - segment.steps) k (omega (arith, past, inside, length-letters segment segments))
          (λ r e same. begins s refl (
          let before : segment.steps ≤ s = omega (arith, past, e) in
          let place : s - segment.steps ≡ r = omega (arith, past, e) in
          behind segment segments s before ∙ ap (letter_in (letters_of_segments segments)) place ∙ same ∙ sym at))
          short in
          behind segment segments (suc s + k) (omega (arith, past)) ∙ ap (letter_in (letters_of_segments segments)) shifted ∙ still ∙ sym at
    ]

-- steps behind a segment
still_inside : (t n most behind all : ℕ) → t + most < all → n ≤ t → all ≡ n + behind → t - n + most < behind
still_inside t n most behind all inside past parts = omega (arith, inside, past, parts)

-- within its most steps and one more a letter gives way to another
pub letters_end : (signal : Signal) (segments : List Segment) → AreSegments signal segments → (t : ℕ) →
    t + most_steps signal (letter_in (letters_of_segments segments) t) < length (letters_of_segments segments) →
    (k : ℕ) × (k ≤ most_steps signal (letter_in (letters_of_segments segments) t)) × (letter_in (letters_of_segments segments) (t + k) ≢ letter_in (letters_of_segments segments) t)
letters_end signal [] are t inside = absurd (omega arith)
letters_end signal (segment ∷ segments) are t inside =
    elim (cases_lt t segment.steps) [
      | inl within ↦
          let at : letter_in (letters_of_segments (segment ∷ segments)) t ≡ segment.letter = here segment segments t within in
          let before_end : t + most_steps signal segment.letter < length (letters_of_segments (segment ∷ segments)) = rw at at inside in
          let first : (may_follow signal segment.letter (letter_in (letters_of_segments segments) 0) ≡ true) × (letter_in (letters_of_segments segments) 0 ≢ segment.letter) =
          first_behind signal segment.letter segments are.1 are.2 (omega (arith, before_end, are.0.most, within, length-letters segment segments)) in
          let place : t + (segment.steps - t) ≡ segment.steps = omega (arith, within) in
          let none : segment.steps - segment.steps ≡ 0 = omega arith in
          let next : letter_in (letters_of_segments (segment ∷ segments)) (t + (segment.steps - t)) ≡ letter_in (letters_of_segments segments) 0 =
          ap (letter_in (letters_of_segments (segment ∷ segments))) place ∙ behind segment segments segment.steps (omega arith) ∙ ap (letter_in (letters_of_segments segments)) none in
          (segment.steps - t, rw at (omega (arith, are.0.most)), rw (at, next) first.1)
      | inr past ↦
          let at : letter_in (letters_of_segments (segment ∷ segments)) t ≡ letter_in (letters_of_segments segments) (t - segment.steps) = behind segment segments t past in
          let before_end : t + most_steps signal (letter_in (letters_of_segments segments) (t - segment.steps)) < length (letters_of_segments (segment ∷ segments)) = rw at at inside in
          let later : (k : ℕ) × (k ≤ most_steps signal (letter_in (letters_of_segments segments) (t - segment.steps)))
          × (letter_in (letters_of_segments segments) (t - segment.steps + k) ≢ letter_in (letters_of_segments segments) (t - segment.steps)) =
          letters_end signal segments are.2 (t - segment.steps)
          (still_inside t segment.steps (most_steps signal (letter_in (letters_of_segments segments) (t - segment.steps))) (length (letters_of_segments segments))
          (length (letters_of_segments (segment ∷ segments))) before_end past (length-letters segment segments)) in
          let shifted : t + later.0 - segment.steps ≡ t - segment.steps + later.0 = omega (arith, past) in (
            later.0,
            rw at later.1,
            λ same. later.2 (sym (behind segment segments (t + later.0) (omega (arith, past)) ∙ ap (letter_in (letters_of_segments segments)) shifted) ∙ same ∙ at),
          )
    ]
