-- What was read where a reply is due to it, and that one is due where both files can be judged.
use Rattle.std.proofs.Common.{◌≡◌, ℕ, ◌≤◌, List, Result, Ok, Err, refl, ap, subst, ◌∙◌}
use Rattle.shelf_io.specs.Told.{Files}
use Rattle.signal_cli.specs.Answers.{◌>>=◌, Follows, content_in, with_content}
use Rattle.signal_cli.specs.Faults.{outcome_status}
use Rattle.signal_cli.specs.declared.fault.Fault.{Fault}
use Rattle.signal_cli.specs.declared.input.Content.{Content}
use Rattle.signal_cli.specs.declared.reply.Reply.{Reply}
use Rattle.signal_cli.proofs.KeptPromises.{small_status}

-- what was read where a reply is due
pub record IsRead {X : Type 0} (limit : ℕ) (made : Result X Fault) (files : Files) (name : List ℕ) (IsDue : X × Content → Reply → Type 0) (reply : Reply) : Type 0 where
  pub first : X
  pub made_is : made ≡ Ok first
  pub content : Content
  pub content_is : content_in files name limit ≡ Ok content
  pub due : IsDue (first, content) reply

pub is_read : {X : Type 0} (limit : ℕ) (made : Result X Fault) (files : Files) (name : List ℕ) (IsDue : X × Content → Reply → Type 0) (reply : Reply) → Follows (with_content limit made files name) IsDue (Ok reply) → IsRead limit made files name IsDue reply
is_read limit (Err fault) files name IsDue reply is = absurd (cc)
is_read {X} limit (Ok x) files name IsDue reply is = by_content (content_in files name limit) refl is
  where
    by_content : (seen : Result Content Fault) → content_in files name limit ≡ seen → (let both : Result (X × Content) Fault = seen >>= (λ content. Ok (x, content)) in Follows both IsDue (Ok reply)) → (let made : Result X Fault = Ok x in IsRead limit made files name IsDue reply)
    by_content (Err fault) seen is = absurd (cc)
    by_content (Ok content) seen is = record { first = x; made_is = refl; content = content; content_is = seen; due = is }

-- a reply is due where the files can be judged
pub reply_is_due : {X : Type 0} (limit : ℕ) (first : Result X Fault) (files : Files) (name : List ℕ) (IsDue : X × Content → Reply → Type 0) (outcome : Result Reply Fault) (x : X) (content : Content) → first ≡ Ok x → content_in files name limit ≡ Ok content → Follows (with_content limit first files name) IsDue outcome → outcome_status outcome ≤ 1
reply_is_due {X} limit first files name IsDue outcome x content first_is content_is follows =
    let P : Result (X × Content) Fault → Type 0 = λ read. Follows read IsDue outcome in
    let read : with_content limit first files name ≡ Ok (x, content) =
    ap (λ (first : Result X Fault). with_content limit first files name) first_is ∙ ap (λ (seen : Result Content Fault). seen >>= (λ content. Ok (x, content))) content_is in
    by_outcome outcome (subst P read follows)
  where
    by_outcome : (outcome : Result Reply Fault) → (let read : Result (X × Content) Fault = Ok (x, content) in Follows read IsDue outcome) → outcome_status outcome ≤ 1
    by_outcome (Ok reply) due = small_status reply
    by_outcome (Err fault) due = absurd due
