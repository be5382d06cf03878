-- That a run of `point` which keeps its promise put the only plan that has the point, and decided whether there is one.
use Rattle.std.proofs.Common.{◌≡◌, ℕ, ◌≤◌, ◌⊎◌, inl, inr, Bool, true, false, if◌then◌else◌, nat_lt, List, [], ◌∷◌, length, Option, Some, None, Result, Ok, Err, IfSome, refl, ap, sym, subst, ◌∙◌, arith}
use Rattle.std.specs.Prelude.{ℤ}
use Rattle.refusals.specs.Faults.{unless}
use Rattle.shelf_io.specs.Told.{Files, bytes_of, with_taken}
use Rattle.ct_base.specs.Validity.{IsValid}
use Rattle.ct_base.specs.declared.net.Net.{Net}
use Rattle.ct_base.specs.declared.plan.Plan.{Plan}
use Rattle.named_net.specs.Naming.{Named}
use Rattle.cell_build.proofs.SpelledLaws.{spelled_is_named}
use Rattle.plan_file.proofs.SpellLaws.{read_where_spells}
use Rattle.program_model.specs.Points.{IsIntegerPoint, point_of, program_of}
use Rattle.point_model.specs.PlansOfPoints.{IsPlanOf}
use Rattle.point_model.proofs.PointsOnce.{plan_of_point}
use Rattle.program_text.specs.PointText.{spelled_point}
use Rattle.program_text.specs.declared.fault.PointFault.{PointFault}
use Rattle.program_text.specs.declared.fault.PointFault.TheVariants as unread
use Rattle.program_text.specs.declared.constants.TheConstants.{MAX_POINT_BYTES}
use Rattle.program_text.proofs.SpellLaws.{reads_what_is_spelled, spelled_is_read}
use Rattle.point_decode.specs.Breaks.{point_breaks}
use Rattle.point_decode.specs.Decoded.{decoded, plan_shown, shown_with_delay}
use Rattle.point_decode.specs.declared.broken.Broken.{Broken}
use Rattle.point_decode.specs.declared.broken.Broken.TheVariants as broken
use Rattle.point_decode.specs.declared.decoding.Decoded.{Decoded}
use Rattle.point_decode.proofs.BreakLaws.{point_is_unbroken, unbroken_is_point}
use Rattle.point_decode.proofs.ShownLaws.{plan_is_shown, point_has_bits}
use Rattle.signal_cli.specs.Accepted.{CanBeDecoded, DecidesPoint, HoldsPoint}
use Rattle.signal_cli.specs.Answers.{IsBrokenReply, IsPlanReply, IsPointReply, IsTextReply, IsValuesReply, PointGives, content_in, found, sized_in}
use Rattle.signal_cli.specs.Bounds.{delay_under}
use Rattle.signal_cli.specs.Faults.{outcome_status, reply_status}
use Rattle.signal_cli.specs.PointLines.{decoded_lines}
use Rattle.signal_cli.specs.Points.{IsDecoded, IsOnlyPlanOf, IsPointText, PutsDecoded}
use Rattle.signal_cli.specs.Worlds.{ForFiles, NoneFailed, World}
use Rattle.signal_cli.specs.declared.fault.Fault.{Fault}
use Rattle.signal_cli.specs.declared.input.Content.{Content}
use Rattle.signal_cli.specs.declared.input.Content.TheVariants.{TooLong, Whole}
use Rattle.signal_cli.specs.declared.reply.Reply.{Reply}
use Rattle.signal_cli.proofs.BoundLaws.{network_spelled, network_valid, sized_network}
use Rattle.signal_cli.proofs.Followed.{IsRead, is_read, reply_is_due}

-- ---- what a list is decoded to

-- the plan of a point is the one that it shows
plan_of_point_is_shown : (net : Net) (point : List ℤ) (plan : Plan) → IsValid net → IsPlanOf net point plan → plan_shown net point ≡ plan
plan_of_point_is_shown net point plan valid of = ap (plan_shown net) of.is ∙ plan_is_shown net (point_of net plan.words) plan valid of.admissible (point_has_bits net plan)

-- a list that is decoded is an integer point, the plan is the only one with this point, and the delay is the plan's
record IsShown (net : Net) (point : List ℤ) (shown : Decoded) : Type 0 where
  integer : IsIntegerPoint (program_of net) point
  only : IsOnlyPlanOf net point shown.plan
  delay : shown.delay ≡ delay_under net shown.plan

point_shows : (net : Net) (point : List ℤ) → IsValid net → IsIntegerPoint (program_of net) point → IsShown net point (shown_with_delay net point)
point_shows net point valid integer =
    let of = plan_of_point net point valid integer in
    let same : plan_shown net point ≡ of.0 = plan_of_point_is_shown net point of.0 valid of.1 in
    record {
      integer = integer;
      only = record {
        has = subst (IsPlanOf net point) (sym same) of.1;
        only = λ other has. sym (plan_of_point_is_shown net point other valid has);
      };
      delay = refl;
    }

decoded_is_shown : (net : Net) (point : List ℤ) (shown : Decoded) → IsValid net → decoded net point ≡ Ok shown → IsShown net point shown
unfolding decoded
decoded_is_shown net point shown valid is = by_breaks (point_breaks (program_of net) point) refl is
  where
    by_breaks : (breaks : List Broken) → point_breaks (program_of net) point ≡ breaks → unless breaks (shown_with_delay net point) ≡ Ok shown → IsShown net point shown
    by_breaks [] none is =
        let same : shown_with_delay net point ≡ shown = cc in
        subst (IsShown net point) same (point_shows net point valid (unbroken_is_point (program_of net) point none))
    by_breaks (fault ∷ faults) some is = absurd (cc)

-- and one that is not is none
refused_is_no_point : (net : Net) (point : List ℤ) (fault : Broken) → decoded net point ≡ Err fault → ¬ IsIntegerPoint (program_of net) point
unfolding decoded
refused_is_no_point net point fault is integer =
    let none : point_breaks (program_of net) point ≡ [] = point_is_unbroken (program_of net) point integer in
    let P : List Broken → Type 0 = λ breaks. unless breaks (shown_with_delay net point) ≡ Err fault in
    let given : P [] = subst P none is in
    cc

-- ---- what the reply to a file says of it

-- a reply with status 0 is to a list that was decoded
record WasDecoded (named : Named) (content : Content) (reply : Reply) : Type 0 where
  bytes : List ℕ
  whole : content ≡ Whole bytes
  values : List ℤ
  spelled : spelled_point bytes ≡ Ok values
  shown : Decoded
  is : decoded named.net values ≡ Ok shown
  answered : IsPlanReply named shown reply

broken_rejects : (fault : Broken) (reply : Reply) → IsBrokenReply fault reply → reply_status reply ≡ 1
broken_rejects (broken.Length values) reply is = ap reply_status is
broken_rejects (broken.Column number) reply is = ap reply_status is
broken_rejects (broken.Row number) reply is = ap reply_status is
broken_rejects broken.Memory reply is = absurd is

unread_rejects : (named : Named) (fault : PointFault) (reply : Reply) → (let made : Result (List ℤ) PointFault = Err fault in IsTextReply named made reply) → reply_status reply ≡ 1
unread_rejects named (unread.Form number) reply is = ap reply_status is
unread_rejects named unread.Memory reply is = absurd is

was_decoded : (named : Named) (content : Content) (reply : Reply) → IsPointReply named content reply → reply_status reply ≡ 0 → WasDecoded named content reply
was_decoded named TooLong reply is zero =
    let one : reply_status reply ≡ 1 = ap reply_status is in
    absurd (omega (arith, one, zero))
was_decoded named (Whole bytes) reply is zero = by_text (spelled_point bytes) refl is
  where
    by_values : (values : List ℤ) → spelled_point bytes ≡ Ok values → (made : Result Decoded Broken) → decoded named.net values ≡ made → IsValuesReply named made reply → WasDecoded named (Whole bytes) reply
    by_values values spelled (Ok shown) made due = record { bytes = bytes; whole = refl; values = values; spelled = spelled; shown = shown; is = made; answered = due }
    by_values values spelled (Err fault) made due =
        let one : reply_status reply ≡ 1 = broken_rejects fault reply due in
        absurd (omega (arith, one, zero))

    by_text : (made : Result (List ℤ) PointFault) → spelled_point bytes ≡ made → IsTextReply named made reply → WasDecoded named (Whole bytes) reply
    by_text (Ok values) spelled due = by_values values spelled (decoded named.net values) refl due
    by_text (Err fault) spelled due =
        let one : reply_status reply ≡ 1 = unread_rejects named fault reply due in
        absurd (omega (arith, one, zero))

-- its file holds the text of an integer point
decoded_text : (named : Named) (content : Content) (reply : Reply) → IsValid named.net → (was : WasDecoded named content reply) → IsPointText named.net was.bytes
decoded_text named content reply valid was = record {
  values = was.values;
  spells = reads_what_is_spelled was.bytes was.values was.spelled;
  integer = (decoded_is_shown named.net was.values was.shown valid was.is).integer;
}

decoded_holds : (named : Named) (content : Content) (reply : Reply) → IsValid named.net → WasDecoded named content reply → HoldsPoint named.net content
decoded_holds named content reply valid was = subst (HoldsPoint named.net) (sym was.whole) (decoded_text named content reply valid was)

-- a reply with status 1 is to a file that holds no such text
refused_holds_none : (named : Named) (content : Content) (reply : Reply) → IsPointReply named content reply → reply_status reply ≡ 1 → ¬ HoldsPoint named.net content
refused_holds_none named TooLong reply is one holds = holds
refused_holds_none named (Whole bytes) reply is one holds = by_values (decoded named.net holds.values) refl (subst (λ (made : Result (List ℤ) PointFault). IsTextReply named made reply) (spelled_is_read bytes holds.values holds.spells) is)
  where
    by_values : (made : Result Decoded Broken) → decoded named.net holds.values ≡ made → IsValuesReply named made reply → ⊥
    by_values (Ok shown) made due =
        let zero : reply_status reply ≡ 0 = ap reply_status due.is in
        omega (arith, one, zero)
    by_values (Err fault) made due = refused_is_no_point named.net holds.values fault made holds.integer

-- ---- the run

-- what a file holds that is seen whole
whole_there : (files : Files) (name : List ℕ) (limit : ℕ) (bytes : List ℕ) → content_in files name limit ≡ Ok (Whole bytes) → bytes_of files name ≡ Some bytes
whole_there files name limit bytes is = by_bytes (bytes_of files name) refl is
  where
    by_length : (held : List ℕ) (long : Bool) → (let content : Result Content Fault = Ok (if long then TooLong else Whole held) in content ≡ Ok (Whole bytes)) → held ≡ bytes
    by_length held true is = absurd (cc)
    by_length held false is = cc

    by_bytes : (seen : Option (List ℕ)) → bytes_of files name ≡ seen → found limit seen ≡ Ok (Whole bytes) → bytes_of files name ≡ Some bytes
    by_bytes None there is = absurd (cc)
    by_bytes (Some held) there is = there ∙ ap (λ (bytes : List ℕ). Some bytes) (by_length held (nat_lt limit (length held)) is)

-- what is due to what was read
abbrev IsDue : Named × Content → Reply → Type 0
IsDue read reply = IsPointReply read.0 read.1 reply

-- what `point` read
abbrev PointRead : Files → List ℕ → List ℕ → Reply → Type 0
PointRead files network point reply = IsRead MAX_POINT_BYTES (sized_in files network) files point IsDue reply

point_read : (files : Files) (network point : List ℕ) (reply : Reply) → PointGives network point files (Ok reply) → PointRead files network point reply
point_read files network point reply gives = is_read MAX_POINT_BYTES (sized_in files network) files point IsDue reply gives

read_valid : (files : Files) (network : List ℕ) (named : Named) → sized_in files network ≡ Ok named → IsValid named.net
read_valid files network named is = network_valid files network named (sized_network files network named is)

-- a reply of `point` with status 0
record Decodes (network point : List ℕ) (files : Files) (reply : Reply) : Type 0 where
  delay : ℕ
  plan_text : List ℕ
  lines : reply.lines ≡ decoded_lines delay plan_text
  decoded : IsDecoded network point delay plan_text files

decodes : (files : Files) (network point : List ℕ) (reply : Reply) → PointGives network point files (Ok reply) → reply_status reply ≡ 0 → Decodes network point files reply
unfolding decoded_text was_decoded
decodes files network point reply gives zero =
    let read = point_read files network point reply gives in
    let valid : IsValid read.first.net = read_valid files network read.first read.made_is in
    let was = was_decoded read.first read.content reply read.due zero in
    let spelled = network_spelled files network read.first (sized_network files network read.first read.made_is) in
    let shown = decoded_is_shown read.first.net was.values was.shown valid was.is in
    record {
      delay = was.shown.delay;
      plan_text = was.answered.text;
      lines = ap (λ (reply : Reply). reply.lines) was.answered.is;
      decoded = record {
        network_bytes = spelled.0;
        network_there = spelled.1;
        named = read.first;
        network_spelled = spelled.2;
        point_bytes = was.bytes;
        point_there = whole_there files point MAX_POINT_BYTES was.bytes (read.content_is ∙ ap (λ (content : Content). Ok content) was.whole);
        point_text = decoded_text read.first read.content reply valid was;
        plan = was.shown.plan;
        plan_spelled = read_where_spells read.first was.answered.text was.shown.plan (spelled_is_named spelled.0 read.first spelled.2) was.answered.spells;
        only = shown.only;
        delay_is = shown.delay;
      };
    }

-- what the two files hold
both_held : (files : Files) (network point : List ℕ) (reply : Reply) → PointRead files network point reply → CanBeDecoded files network point
both_held files network point reply read = record { named = read.first; network_is = read.made_is; content = read.content; content_is = read.content_is }

module _ (before after : World) where
  -- the plan that was put is the only one that has the point
  pub puts_decoded : (network point : List ℕ) (reply : Reply) → after.out ≡ with_taken before.out reply.lines → reply_status reply ≡ 0 → ForFiles before.shelf.files (λ files. PointGives network point files (Ok reply)) → PutsDecoded network point before after
  puts_decoded network point reply put zero deserved =
      let made = for_told before.shelf.files deserved in
      record { delay = made.0; plan_text = made.1; put = put ∙ ap (with_taken before.out) made.2; decoded = made.3 }
    where
      for_told : (told : Option Files) → ForFiles told (λ files. PointGives network point files (Ok reply)) → (delay : ℕ) × (plan_text : List ℕ) × (reply.lines ≡ decoded_lines delay plan_text) × ForFiles told (IsDecoded network point delay plan_text)
      for_told None (files, gives) =
          let made = decodes files network point reply gives zero in
          (made.delay, made.plan_text, made.lines, (files, made.decoded))
      for_told (Some files) gives =
          let made = decodes files network point reply gives zero in
          (made.delay, made.plan_text, made.lines, made.decoded)

  -- whether there is one was decided
  pub decides_point : (told : Option Files) (network point : List ℕ) (status : ℕ) → (status ≤ 1 → (reply : Reply) × ForFiles told (λ files. PointGives network point files (Ok reply)) × (reply_status reply ≡ status)) → (NoneFailed before after → IfSome told (λ files. (status ≡ 8) ⊎ ((outcome : Result Reply Fault) × PointGives network point files outcome × (outcome_status outcome ≡ status)))) → IfSome told (λ files. DecidesPoint files network point before after status)
  unfolding both_held point_read
  decides_point None network point status answered explained = tt
  decides_point (Some files) network point status answered explained = record {
    decoded = λ zero.
        let given = answered (omega (arith, zero)) in
        let read = point_read files network point given.0 given.1 in
        let was = was_decoded read.first read.content given.0 read.due (given.2 ∙ zero) in
        (both_held files network point given.0 read, decoded_holds read.first read.content given.0 (read_valid files network read.first read.made_is) was);
    refused = λ one.
        let given = answered (omega (arith, one)) in
        let read = point_read files network point given.0 given.1 in
        (both_held files network point given.0 read, refused_holds_none read.first read.content given.0 read.due (given.2 ∙ one));
    complete = λ none can. elim (explained none) [
      | inl eight ↦ inr eight
      | inr deserved ↦ inl (rw (← deserved.2) (reply_is_due MAX_POINT_BYTES (sized_in files network) files point IsDue deserved.0 can.named can.content can.network_is can.content_is deserved.1))
    ];
  }

  pub decides_point_at_8 : (told : Option Files) (network point : List ℕ) → IfSome told (λ files. DecidesPoint files network point before after 8)
  decides_point_at_8 None network point = tt
  decides_point_at_8 (Some files) network point = record {
    decoded = λ zero. absurd (omega (arith, zero));
    refused = λ one. absurd (omega (arith, one));
    complete = λ none can. inr refl;
  }
