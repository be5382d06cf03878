-- What a command deserves where the bytes of its files are told: a reply, or the first fault in the order of judging
-- (README.md, "Statuses").
use Rattle.std.specs.Prelude.{◌≡◌, ℕ, ℤ, true, false, nat_lt, if◌then◌else◌, List, [], ◌∷◌, ◌++◌, length, map, Option, Some, None, Result, Ok, Err, codes}
use Rattle.std.specs.Fmt.{decimal}
use Rattle.limits.specs.declared.TheConstants.{MAX_FILE_BYTES}
use Rattle.shelf_io.specs.Told.{Files, bytes_of}
use Rattle.shelf_io.specs.declared.file_map.File.{File}
use Rattle.ct_base.specs.declared.net.Net.{Net}
use Rattle.ct_base.specs.declared.plan.Letter.{Letter}
use Rattle.ct_base.specs.declared.plan.Plan.{Plan}
use Rattle.ct_base.specs.declared.signal.Signal.{Signal}
use Rattle.traffic_model.specs.Delay.{delay_of, left_of, letters_at}
use Rattle.named_net.specs.Naming.{Named}
use Rattle.cell_build.specs.Spelled.{spelled_network}
use Rattle.cell_build.specs.declared.network_fault.NetworkFault.{NetworkFault}
use Rattle.plan_file.specs.PlanText.{Spells}
use Rattle.plan_file.specs.Spelled.{spelled_plan}
use Rattle.plan_file.specs.declared.fault.PlanFault.{PlanFault}
use Rattle.plan_file.specs.declared.fault.PlanFault.TheVariants.{Missing}
use Rattle.sparse_program.specs.Program.{Parts}
use Rattle.program_model.specs.Points.{point_of, program_of}
use Rattle.cell_replay.specs.Trace.{trace_of}
use Rattle.lo_program.specs.Compiled.{size_faults}
use Rattle.lo_program.specs.declared.fault.CompileFault.{CompileFault}
use Rattle.plan_report.specs.Summary.{summary_lines}
use Rattle.plan_report.specs.Table.{trace_text}
use Rattle.program_text.specs.PointText.{point_text, spelled_point}
use Rattle.program_text.specs.ProgramText.{program_text}
use Rattle.program_text.specs.declared.fault.PointFault.{PointFault}
use Rattle.program_text.specs.declared.fault.PointFault.TheVariants as unread
use Rattle.program_text.specs.declared.constants.TheConstants.{MAX_POINT_BYTES}
use Rattle.point_decode.specs.Decoded.{decoded}
use Rattle.point_decode.specs.declared.broken.Broken.{Broken}
use Rattle.point_decode.specs.declared.broken.Broken.TheVariants as broken
use Rattle.point_decode.specs.declared.decoding.Decoded.{Decoded}
use Rattle.refusals.specs.Faults.{unless}
use Rattle.certificate_model.specs.Text.{certificate_text}
use Rattle.certificate_model.specs.Verdicts.{IsVerdict}
use Rattle.certificate_model.specs.declared.constants.TheConstants.{MAX_CERTIFICATE_BYTES}
use Rattle.certificate_model.specs.declared.verdict.Verdict.{Verdict}
use Rattle.certificate_model.specs.declared.verdict.Verdict.TheVariants.{Accepted, Rejected}
use Rattle.cert_format.specs.Marks.{node_of}
use Rattle.solve_core.specs.Solved.{IsSolved, solve_faults}
use Rattle.solve_core.specs.declared.fault.SolveFault.{SolveFault}
use Rattle.solve_core.specs.declared.solved.Solved.{Solved}
use Rattle.generated_nets.specs.Generated.{generated_text}
use Rattle.signal_cli.specs.BoundLines.{accepted_lines, gap_lines}
use Rattle.signal_cli.specs.Commands.{Check, Command, Demo, Encode, Gap, Point, Program, Replay, Solve, Trace}
use Rattle.signal_cli.specs.DemoLines.{demo_lines}
use Rattle.signal_cli.specs.Faults.{uncompiled_of, unsolved_of}
use Rattle.signal_cli.specs.PointLines.{decoded_lines, refused_lines, too_long_lines}
use Rattle.signal_cli.specs.RejectionLines.{long_lines, rejected_lines}
use Rattle.signal_cli.specs.declared.fault.Fault.{Fault}
use Rattle.signal_cli.specs.declared.fault.Fault.TheVariants.{NetworkLong, Network, PlanLong, Plan as PlanRefused, Read}
use Rattle.signal_cli.specs.declared.input.Content.{Content}
use Rattle.signal_cli.specs.declared.input.Content.TheVariants.{TooLong, Whole}
use Rattle.signal_cli.specs.declared.input.Planned.{Planned}
use Rattle.signal_cli.specs.declared.reply.Reply.{Reply}

infixl 10 ◌>>=◌
-- what comes after an answer, or its fault
abbrev pub ◌>>=◌ : {X Y : Type 0} → Result X Fault → (X → Result Y Fault) → Result Y Fault
Ok x >>= next = next x
Err fault >>= next = Err fault

-- what a file holds: all its bytes, or more than are allowed
abbrev pub content_of : ℕ → List ℕ → Content
content_of limit bytes = if nat_lt limit (length bytes) then TooLong else Whole bytes

-- what is found of a file of at most so many bytes; it is a fault where there is none
abbrev pub found : ℕ → Option (List ℕ) → Result Content Fault
found limit None = Err Read
found limit (Some bytes) = Ok (content_of limit bytes)

-- what the named file holds
abbrev pub content_in : Files → List ℕ → ℕ → Result Content Fault
content_in files name limit = found limit (bytes_of files name)

-- what became of the bytes of a network file, as an answer of the program
abbrev pub network_as : Result Named NetworkFault → Result Named Fault
network_as (Ok named) = Ok named
network_as (Err fault) = Err (Network fault)

-- the network that bytes spell
unfoldable pub network : List ℕ → Result Named Fault
network bytes = network_as (spelled_network bytes)

-- the network that a file holds
abbrev pub network_from : Content → Result Named Fault
network_from TooLong = Err NetworkLong
network_from (Whole bytes) = network bytes

-- the network in the named file
abbrev pub network_in : Files → List ℕ → Result Named Fault
network_in files name = content_in files name MAX_FILE_BYTES >>= network_from

-- a network whose size was judged, as an answer of the planner
abbrev pub sized_as : Result Named CompileFault → Result Named Fault
sized_as (Ok named) = Ok named
sized_as (Err fault) = Err (uncompiled_of fault)

-- a network whose program is not too large (docs/program.md, "Limits")
abbrev pub sized : Named → Result Named Fault
sized named = sized_as (unless (size_faults named.net) named)

-- the network in the named file, its size judged as soon as the file was
abbrev pub sized_in : Files → List ℕ → Result Named Fault
sized_in files name = network_in files name >>= sized

-- what became of a text, as an answer of the program
abbrev pub planned_as : Result Plan PlanFault → Result Plan Fault
planned_as (Ok plan) = Ok plan
planned_as (Err fault) = Err (PlanRefused fault)

-- the plan that bytes spell for a network
unfoldable pub plan : Named → List ℕ → Result Plan Fault
plan named bytes = planned_as (spelled_plan named bytes)

-- the plan that a file holds for a network
abbrev pub plan_from : Named → Content → Result Plan Fault
plan_from named TooLong = Err PlanLong
plan_from named (Whole bytes) = plan named bytes

-- the plan in the named file for a network
abbrev pub plan_in : Named → Files → List ℕ → Result Plan Fault
plan_in named files name = content_in files name MAX_FILE_BYTES >>= plan_from named

-- a network, and the plan for it in the named file, which is read where the network is accepted
abbrev pub with_plan : Result Named Fault → Files → List ℕ → Result Planned Fault
with_plan network files plan = network >>= (λ named. plan_in named files plan >>= (λ plan. Ok (record { named = named; plan = plan })))

-- a network and a plan for it, each judged as soon as its file was read
abbrev pub planned_in : Files → List ℕ → List ℕ → Result Planned Fault
planned_in files network plan = with_plan (network_in files network) files plan

-- the same for a network whose size is judged before the plan is read
abbrev pub sized_planned_in : Files → List ℕ → List ℕ → Result Planned Fault
sized_planned_in files network plan = with_plan (sized_in files network) files plan

-- lines alone
abbrev pub printed : List ℕ → Reply
printed lines = record { rejected = false; lines = lines; outputs = [] }

-- a file, and then lines
abbrev pub filed : (name bytes lines : List ℕ) → Reply
filed name bytes lines = record { rejected = false; lines = lines; outputs = (record { name = name; bytes = bytes }) ∷ [] }

-- the lines of a replay under the words of a plan: the delay, and what is left at the end
unfoldable pub replay_lines : Net → List (List Letter) → List ℕ
replay_lines net words =
    codes "delay " ++ decimal (delay_of net.cells (letters_at words) net.steps) ++ codes "\nleft " ++ decimal (left_of net.cells (letters_at words) net.steps) ++ codes "\n"

-- `replay NET`: the lines of a network without signals, which needs no plan
abbrev pub replay_alone : Net → List Signal → Result Reply Fault
replay_alone net [] = Ok (printed (replay_lines net []))
replay_alone net (signal ∷ signals) = Err (PlanRefused (Missing 0))

-- `replay NET` and `replay NET PLAN`
abbrev pub replay_of : Files → List ℕ → Option (List ℕ) → Result Reply Fault
replay_of files network None = network_in files network >>= (λ named. replay_alone named.net named.net.signals)
replay_of files network (Some plan) = planned_in files network plan >>= (λ planned. Ok (printed (replay_lines planned.named.net planned.plan.words)))

-- the table of the replay for a file, and the lines of the replay
abbrev pub trace_reply : List ℕ → Planned → Reply
trace_reply table planned =
    let net = planned.named.net in
    filed table (trace_text planned.named.names (trace_of net.cells (letters_at planned.plan.words) net.steps)) (replay_lines net planned.plan.words)

-- `trace NET PLAN OUT`
abbrev pub trace_in : Files → List ℕ → List ℕ → List ℕ → Result Reply Fault
trace_in files network plan table = planned_in files network plan >>= (λ planned. Ok (trace_reply table planned))

-- how many rows and columns a program has, and how many of the columns are the plan's, as lines
unfoldable pub program_lines : Parts → List ℕ
program_lines program =
    codes "rows " ++ decimal (length program.rows) ++ codes "\ncolumns " ++ decimal (length program.columns) ++ codes "\nplan " ++ decimal program.plan_cols ++ codes "\n"

-- the text of a program for a file, and what it has
abbrev pub program_reply : List ℕ → Parts → Reply
program_reply text program = filed text (program_text program) (program_lines program)

-- `program NET OUT`
abbrev pub program_in : Files → List ℕ → List ℕ → Result Reply Fault
program_in files network text = sized_in files network >>= (λ named. Ok (program_reply text (program_of named.net)))

-- how many values a point has, as a line
unfoldable pub point_line : List ℤ → List ℕ
point_line point = codes "columns " ++ decimal (length point) ++ codes "\n"

-- the text of a plan's point for a file, and how many values it has
abbrev pub point_reply : List ℕ → Planned → Reply
point_reply text planned =
    let point = point_of planned.named.net planned.plan.words in
    filed text (point_text point) (point_line point)

-- `encode NET PLAN OUT`
abbrev pub encode_in : Files → List ℕ → List ℕ → List ℕ → Result Reply Fault
encode_in files network plan text = sized_planned_in files network plan >>= (λ planned. Ok (point_reply text planned))

-- what was read first, and what the named file holds of at most so many bytes, which is read where there is no fault yet
abbrev pub with_content : {X : Type 0} → ℕ → Result X Fault → Files → List ℕ → Result (X × Content) Fault
with_content limit first files name = first >>= (λ x. content_in files name limit >>= (λ content. Ok (x, content)))

-- the reply that is due to what was read, or the fault that came in its place
abbrev pub Follows : {X : Type 0} → Result X Fault → (X → Reply → Type 0) → Result Reply Fault → Type 0
Follows (Ok x) IsDue (Ok reply) = IsDue x reply
Follows (Ok x) IsDue (Err fault) = ⊥
Follows (Err fault) IsDue outcome = Err fault ≡ outcome

-- lines that say why a certificate or a point is not accepted
abbrev pub rejection : List ℕ → Reply
rejection lines = record { rejected = true; lines = lines; outputs = [] }

-- the reply to what breaks a list of values: how many there are, or the first column or row that is at fault
abbrev pub IsBrokenReply : Broken → Reply → Type 0
IsBrokenReply (broken.Length values) reply = reply ≡ rejection (refused_lines (codes "length") values)
IsBrokenReply (broken.Column number) reply = reply ≡ rejection (refused_lines (codes "column") number)
IsBrokenReply (broken.Row number) reply = reply ≡ rejection (refused_lines (codes "row") number)
IsBrokenReply broken.Memory reply = ⊥

-- the reply to a plan that a list of values shows: its delay, and the text that spells it
pub record IsPlanReply (named : Named) (shown : Decoded) (reply : Reply) : Type 0 where
  pub text : List ℕ
  pub spells : Spells named text shown.plan
  pub is : reply ≡ printed (decoded_lines shown.delay text)

-- the reply to what a list of values comes to
abbrev pub IsValuesReply : Named → Result Decoded Broken → Reply → Type 0
IsValuesReply named (Ok shown) reply = IsPlanReply named shown reply
IsValuesReply named (Err fault) reply = IsBrokenReply fault reply

-- the reply to the values that a text spells, or to its first line at fault
abbrev pub IsTextReply : Named → Result (List ℤ) PointFault → Reply → Type 0
IsTextReply named (Ok values) reply = IsValuesReply named (decoded named.net values) reply
IsTextReply named (Err (unread.Form number)) reply = reply ≡ rejection (refused_lines (codes "form") number)
IsTextReply named (Err unread.Memory) reply = ⊥

-- the reply to what a file holds as a point of a network's program
abbrev pub IsPointReply : Named → Content → Reply → Type 0
IsPointReply named TooLong reply = reply ≡ rejection too_long_lines
IsPointReply named (Whole bytes) reply = IsTextReply named (spelled_point bytes) reply

-- `point NET POINT`
abbrev pub PointGives : List ℕ → List ℕ → Files → Result Reply Fault → Type 0
PointGives network point files outcome =
    Follows (with_content MAX_POINT_BYTES (sized_in files network) files point) (λ read. IsPointReply read.0 read.1) outcome

-- what was read first, and what the named file holds as a certificate
abbrev pub with_certificate : {X : Type 0} → Result X Fault → Files → List ℕ → Result (X × Content) Fault
with_certificate first files certificate = with_content MAX_CERTIFICATE_BYTES first files certificate

-- the reply to what a file holds as a certificate for a network: that it is too long, or what is answered to its verdict
abbrev pub IsJudged : Net → (Verdict → Reply) → Content → Reply → Type 0
IsJudged net answer TooLong reply = reply ≡ rejection long_lines
IsJudged net answer (Whole bytes) reply = (verdict : Verdict) × IsVerdict net bytes verdict × (reply ≡ answer verdict)

-- what is answered to a verdict
abbrev pub check_reply : Verdict → Reply
check_reply (Accepted bound) = printed (accepted_lines bound)
check_reply (Rejected number why) = rejection (rejected_lines number why)

-- `check NET CERT`
abbrev pub CheckGives : List ℕ → List ℕ → Files → Result Reply Fault → Type 0
CheckGives network certificate files outcome =
    Follows (with_certificate (sized_in files network) files certificate) (λ read. IsJudged read.0.net check_reply read.1) outcome

-- what is answered to a verdict for a plan: where the bound is accepted, how far the plan's delay is above it
abbrev pub gap_reply : Planned → Verdict → Reply
gap_reply planned (Accepted bound) =
    let net = planned.named.net in
    printed (gap_lines (delay_of net.cells (letters_at planned.plan.words) net.steps) bound)
gap_reply planned (Rejected number why) = rejection (rejected_lines number why)

-- `gap NET PLAN CERT`
abbrev pub GapGives : List ℕ → List ℕ → List ℕ → Files → Result Reply Fault → Type 0
GapGives network plan certificate files outcome =
    Follows (with_certificate (sized_planned_in files network plan) files certificate) (λ read. IsJudged read.0.named.net (gap_reply read.0) read.1) outcome

-- a network and a budget that were judged, as an answer of the planner
abbrev pub searchable_as : Result Named SolveFault → Result Named Fault
searchable_as (Ok named) = Ok named
searchable_as (Err fault) = Err (unsolved_of fault)

-- a network whose program is not too large, and whose rows a budget of nodes is not too great for (docs/search.md, "Limits")
abbrev pub searchable : ℕ → Named → Result Named Fault
searchable budget named = searchable_as (unless (solve_faults named.net budget) named)

-- the network in the named file, its size and the budget judged as soon as the file was
abbrev pub searchable_in : Files → List ℕ → ℕ → Result Named Fault
searchable_in files name budget = network_in files name >>= searchable budget

-- two files, and then lines
abbrev pub both_filed : (first second : File) → List ℕ → Reply
both_filed first second lines = record { rejected = false; lines = lines; outputs = first ∷ second ∷ [] }

-- the text of the certificate that a search found
abbrev pub solved_text : Solved → List ℕ
solved_text solved = certificate_text solved.cert.bound (map node_of solved.cert.nodes)

-- the text of a plan for one file, that of a certificate for another, and the lines of a search
abbrev pub solve_reply : (plan certificate text : List ℕ) → Solved → Reply
solve_reply plan certificate text solved =
    both_filed
    (record { name = plan; bytes = text })
    (record { name = certificate; bytes = solved_text solved })
    (summary_lines solved.delay solved.cert.bound solved.nodes solved.state)

-- the reply is to what some search within a budget comes to for a network: its plan and its certificate, and its lines
pub record IsSearchReply (budget : ℕ) (plan certificate : List ℕ) (named : Named) (reply : Reply) : Type 0 where
  pub solved : Solved
  pub searched : IsSolved named.net budget solved
  pub text : List ℕ
  pub spells : Spells named text solved.plan
  pub is : reply ≡ solve_reply plan certificate text solved

-- `solve NET BUDGET PLANOUT CERTOUT`
abbrev pub SolveGives : List ℕ → ℕ → (plan certificate : List ℕ) → Files → Result Reply Fault → Type 0
SolveGives network budget plan certificate files outcome = Follows (searchable_in files network budget) (IsSearchReply budget plan certificate) outcome

-- the budget of nodes of a demonstration
abbrev pub demo_budget : ℕ
demo_budget = 9

-- the network that a text spells, judged as a file that holds the text, and its size for a budget of nodes
abbrev pub searchable_text : List ℕ → ℕ → Result Named Fault
searchable_text text budget = network_from (content_of MAX_FILE_BYTES text) >>= searchable budget

-- the lines of a demonstration and the text of a plan, for what a search came to
abbrev pub demo_reply : ℕ → Net → Solved → List ℕ → Reply
demo_reply number net solved text =
    let program = program_of net in
    printed (demo_lines number (length program.rows) (length program.columns) (summary_lines solved.delay solved.cert.bound solved.nodes solved.state) text)

-- the reply is to what some search comes to for a generated network: its lines, and its plan. Its certificate is accepted.
pub record IsDemoReply (number : ℕ) (named : Named) (reply : Reply) : Type 0 where
  pub solved : Solved
  pub searched : IsSolved named.net demo_budget solved
  pub accepted : IsVerdict named.net (solved_text solved) (Accepted solved.cert.bound)
  pub text : List ℕ
  pub spells : Spells named text solved.plan
  pub is : reply ≡ demo_reply number named.net solved text

-- `demo NUMBER`, which is the same whatever the files hold
abbrev pub DemoGives : ℕ → Result Reply Fault → Type 0
DemoGives number outcome = Follows (searchable_text (generated_text number) demo_budget) (IsDemoReply number) outcome

-- which outcome the files deserve of a command: a reply, or the first fault in the order of judging
abbrev pub Deserves : Command → Files → Result Reply Fault → Type 0
Deserves (Replay network plan) files outcome = replay_of files network plan ≡ outcome
Deserves (Trace network plan table) files outcome = trace_in files network plan table ≡ outcome
Deserves (Program network text) files outcome = program_in files network text ≡ outcome
Deserves (Encode network plan text) files outcome = encode_in files network plan text ≡ outcome
Deserves (Point network point) files outcome = PointGives network point files outcome
Deserves (Check network certificate) files outcome = CheckGives network certificate files outcome
Deserves (Gap network plan certificate) files outcome = GapGives network plan certificate files outcome
Deserves (Solve network budget plan certificate) files outcome = SolveGives network budget plan certificate files outcome
Deserves (Demo number) files outcome = DemoGives number outcome
