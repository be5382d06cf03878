use Rattle.std.proofs.Common.{◌≡◌, length, IfSome, ap, sym, subst, ◌∙◌, arith}
use Rattle.std.proofs.lemmas.Bool.{true≢false}
use Rattle.traffic_model.specs.Runs.{IsAdmissible}
use Rattle.plan_bits.specs.inner.Parts.{Shows}
use Rattle.plan_bits.proofs.WordLaws.{one_word_shows, word_is_long}
use Rattle.plan_bits.proofs.word.word_of_bits.Goals as goal

pub admissible-requires-clause-length : goal.admissible-requires-clause-length
admissible-requires-clause-length c =
    let net = c.args.net.now in
    let shows : Shows net c.args.bits.now c.args.number c.in-Some.word = subst (λ found. IfSome found (Shows net c.args.bits.now c.args.number)) c.in-Some.is c.in_ok-word.ensures.shows in
    let long : length c.as_slice.result.now ≡ net.steps = ap length c.as_slice.ensures ∙ word_is_long net c.args.bits.now c.args.number c.in-Some.word shows in
    (omega (arith, long, c.requires.valid.steps.0), omega (arith, long, c.requires.valid.steps.1))

pub returns-else-admissible-clause-none : goal.returns-else-admissible-clause-none
returns-else-admissible-clause-none c = λ none word is.
    let net = c.args.net.now in
    let shows : Shows net c.args.bits.now c.args.number c.in-Some.word = subst (λ found. IfSome found (Shows net c.args.bits.now c.args.number)) c.in-Some.is c.in_ok-word.ensures.shows in
    let same : word ≡ c.in-Some.word = one_word_shows net c.args.bits.now c.args.number word c.in-Some.word c.requires.valid c.requires.inside is shows in
    let shown : IsAdmissible c.signal.result.now c.as_slice.result.now = rw (c.signal.ensures.value, c.as_slice.ensures, ← same) is.admissible in
    true≢false (sym (c.admissible.ensures.1 shown) ∙ c.if-admissible.false)
