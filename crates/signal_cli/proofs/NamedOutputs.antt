-- A reply that a command deserves writes the outputs of the command, and no other files.
use Rattle.std.proofs.Common.{◌≡◌, ℕ, List, [], ◌∷◌, Some, None, Result, Ok, Err, refl, ap, sym, ◌∙◌}
use Rattle.std.specs.Prelude.{ℤ}
use Rattle.shelf_io.specs.Told.{Files}
use Rattle.ct_base.specs.declared.net.Net.{Net}
use Rattle.ct_base.specs.declared.signal.Signal.{Signal}
use Rattle.named_net.specs.Naming.{Named}
use Rattle.program_model.specs.Points.{program_of}
use Rattle.program_text.specs.PointText.{spelled_point}
use Rattle.program_text.specs.declared.fault.PointFault.{PointFault}
use Rattle.program_text.specs.declared.fault.PointFault.TheVariants as unread
use Rattle.program_text.specs.declared.constants.TheConstants.{MAX_POINT_BYTES}
use Rattle.point_decode.specs.Decoded.{decoded}
use Rattle.point_decode.specs.declared.broken.Broken.{Broken}
use Rattle.point_decode.specs.declared.broken.Broken.TheVariants as broken
use Rattle.point_decode.specs.declared.decoding.Decoded.{Decoded}
use Rattle.certificate_model.specs.declared.verdict.Verdict.{Verdict}
use Rattle.certificate_model.specs.declared.verdict.Verdict.TheVariants.{Accepted, Rejected}
use Rattle.signal_cli.specs.Answers.{◌>>=◌, Deserves, Follows, IsBrokenReply, IsDemoReply, IsJudged, IsPointReply, IsSearchReply, IsTextReply, IsValuesReply, check_reply, demo_budget, gap_reply, network_in, planned_in, point_reply, printed, program_reply, replay_alone, replay_lines, searchable_in, searchable_text, sized_in, sized_planned_in, trace_reply, with_certificate, with_content}
use Rattle.signal_cli.specs.Commands.{Check, Command, Demo, Encode, Gap, Point, Program, Replay, Solve, Trace, outputs_of}
use Rattle.generated_nets.specs.Generated.{generated_text}
use Rattle.signal_cli.specs.declared.fault.Fault.{Fault}
use Rattle.signal_cli.specs.declared.input.Content.{Content}
use Rattle.signal_cli.specs.declared.input.Content.TheVariants.{TooLong, Whole}
use Rattle.signal_cli.specs.declared.input.Planned.{Planned}
use Rattle.signal_cli.specs.declared.reply.Reply.{Reply}
use Rattle.signal_cli.proofs.Unnamed.{names_of}

-- a reply at the end of a chain
at_the_end : {X : Type 0} (found : Result X Fault) (next : X → Result Reply Fault) (names : List (List ℕ)) → ((x : X) (reply : Reply) → next x ≡ Ok reply → names_of reply.outputs ≡ names) → (reply : Reply) → (found >>= next) ≡ Ok reply → names_of reply.outputs ≡ names
at_the_end (Ok x) next names each reply is = each x reply is
at_the_end (Err fault) next names each reply is = absurd (cc)

-- a reply that is known
known_reply : (known reply : Reply) → (let found : Result Reply Fault = Ok known in found ≡ Ok reply) → names_of reply.outputs ≡ names_of known.outputs
known_reply known reply is =
    let same : known ≡ reply = cc in
    ap (λ (reply : Reply). names_of reply.outputs) (sym same)

alone : (net : Net) (signals : List Signal) (reply : Reply) → replay_alone net signals ≡ Ok reply → names_of reply.outputs ≡ []
alone net [] reply is = known_reply (printed (replay_lines net [])) reply is
alone net (signal ∷ signals) reply is = absurd (cc)

-- a reply that is due to what was read
due : {X : Type 0} (made : Result X Fault) (IsDue : X → Reply → Type 0) (names : List (List ℕ)) → ((x : X) (reply : Reply) → IsDue x reply → names_of reply.outputs ≡ names) → (reply : Reply) → Follows made IsDue (Ok reply) → names_of reply.outputs ≡ names
due (Ok x) IsDue names each reply is = each x reply is
due (Err fault) IsDue names each reply is = absurd (cc)

-- the reply to a certificate writes no file
judged : (net : Net) (answer : Verdict → Reply) → ((verdict : Verdict) → names_of (answer verdict).outputs ≡ []) → (content : Content) (reply : Reply) → IsJudged net answer content reply → names_of reply.outputs ≡ []
judged net answer each TooLong reply is = ap (λ (reply : Reply). names_of reply.outputs) is
judged net answer each (Whole bytes) reply is = ap (λ (reply : Reply). names_of reply.outputs) is.2 ∙ each is.0

checked : (verdict : Verdict) → names_of (check_reply verdict).outputs ≡ []
checked (Accepted bound) = refl
checked (Rejected number why) = refl

compared : (planned : Planned) (verdict : Verdict) → names_of (gap_reply planned verdict).outputs ≡ []
compared planned (Accepted bound) = refl
compared planned (Rejected number why) = refl

-- nor does the reply to a point
no_outputs : (known reply : Reply) → reply ≡ known → names_of reply.outputs ≡ names_of known.outputs
no_outputs known reply is = ap (λ (reply : Reply). names_of reply.outputs) is

broken_alone : (fault : Broken) (reply : Reply) → IsBrokenReply fault reply → names_of reply.outputs ≡ []
broken_alone (broken.Length values) reply is = no_outputs _ reply is
broken_alone (broken.Column number) reply is = no_outputs _ reply is
broken_alone (broken.Row number) reply is = no_outputs _ reply is
broken_alone broken.Memory reply is = absurd is

values_alone : (named : Named) (made : Result Decoded Broken) (reply : Reply) → IsValuesReply named made reply → names_of reply.outputs ≡ []
values_alone named (Ok shown) reply is = no_outputs _ reply is.is
values_alone named (Err fault) reply is = broken_alone fault reply is

text_alone : (named : Named) (made : Result (List ℤ) PointFault) (reply : Reply) → IsTextReply named made reply → names_of reply.outputs ≡ []
text_alone named (Ok values) reply is = values_alone named (decoded named.net values) reply is
text_alone named (Err (unread.Form number)) reply is = no_outputs _ reply is
text_alone named (Err unread.Memory) reply is = absurd is

point_alone : (named : Named) (content : Content) (reply : Reply) → IsPointReply named content reply → names_of reply.outputs ≡ []
point_alone named TooLong reply is = no_outputs _ reply is
point_alone named (Whole bytes) reply is = text_alone named (spelled_point bytes) reply is

pub outputs_are_named : (command : Command) (files : Files) (reply : Reply) → Deserves command files (Ok reply) → names_of reply.outputs ≡ outputs_of command
outputs_are_named (Replay network None) files reply is =
    at_the_end (network_in files network) (λ (named : Named). replay_alone named.net named.net.signals) [] (λ named reply is. alone named.net named.net.signals reply is) reply is
outputs_are_named (Replay network (Some plan)) files reply is =
    at_the_end (planned_in files network plan) (λ (planned : Planned). Ok (printed (replay_lines planned.named.net planned.plan.words))) [] (λ planned reply is. known_reply (printed (replay_lines planned.named.net planned.plan.words)) reply is) reply is
outputs_are_named (Trace network plan table) files reply is =
    at_the_end (planned_in files network plan) (λ (planned : Planned). Ok (trace_reply table planned)) (table ∷ []) (λ planned reply is. known_reply (trace_reply table planned) reply is) reply is
outputs_are_named (Program network text) files reply is =
    at_the_end (sized_in files network) (λ (named : Named). Ok (program_reply text (program_of named.net))) (text ∷ []) (λ named reply is. known_reply (program_reply text (program_of named.net)) reply is) reply is
outputs_are_named (Encode network plan text) files reply is =
    at_the_end (sized_planned_in files network plan) (λ (planned : Planned). Ok (point_reply text planned)) (text ∷ []) (λ planned reply is. known_reply (point_reply text planned) reply is) reply is
outputs_are_named (Point network point) files reply is =
    due (with_content MAX_POINT_BYTES (sized_in files network) files point) (λ read. IsPointReply read.0 read.1) [] (λ read reply is. point_alone read.0 read.1 reply is) reply is
outputs_are_named (Check network certificate) files reply is =
    due (with_certificate (sized_in files network) files certificate) (λ read. IsJudged read.0.net check_reply read.1) [] (λ read reply is. judged read.0.net check_reply checked read.1 reply is) reply is
outputs_are_named (Gap network plan certificate) files reply is =
    due (with_certificate (sized_planned_in files network plan) files certificate) (λ read. IsJudged read.0.named.net (gap_reply read.0) read.1) [] (λ read reply is. judged read.0.named.net (gap_reply read.0) (compared read.0) read.1 reply is) reply is
outputs_are_named (Solve network budget plan certificate) files reply is =
    due (searchable_in files network budget) (IsSearchReply budget plan certificate) (plan ∷ certificate ∷ []) (λ named reply is. ap (λ (reply : Reply). names_of reply.outputs) is.is) reply is
outputs_are_named (Demo number) files reply is =
    due (searchable_text (generated_text number) demo_budget) (IsDemoReply number) [] (λ named reply is. ap (λ (reply : Reply). names_of reply.outputs) is.is) reply is
