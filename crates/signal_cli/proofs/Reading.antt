-- What a part of a command found by reading, as what the files deserve.
use Rattle.std.proofs.Common.{◌≡◌, ℕ, ◌≤◌, ◌<◌, ◌+◌, inl, inr, subst, Bool, true, false, cond, if◌then◌else◌, nat_lt, List, length, replicate, Option, Some, None, MatchOption, Result, Ok, Err, refl, ap, sym, ◌∙◌, arith}
use Rattle.std.proofs.lemmas.Bool.Decides.{nat_tests}
use Rattle.std.proofs.lemmas.List.{length-replicate}
use Rattle.std.proofs.lemmas.Slice.Eq.{bytes_eq-Decides}
use Rattle.std.specs.FinMap as map
use Rattle.std.specs.Str.{bytes_eq}
use Rattle.ct_base.specs.declared.plan.Plan.{Plan}
use Rattle.named_net.specs.Naming.{Named}
use Rattle.shelf_io.specs.Told.{Files, IfTold, IsMissing, FailsToRead, ShelfState, bytes_of}
use Rattle.shelf_io.proofs.Growing.{get_same}
use Rattle.shelf_io.proofs.NamedFiles.{get_inserted}
use Rattle.limits.specs.declared.TheConstants.{MAX_FILE_BYTES}
use Rattle.signal_cli.specs.Answers.{◌>>=◌, Follows, content_in, content_of, found, network_from, network_in, plan_from, plan_in, sized, sized_in, sized_planned_in, with_content, with_plan}
use Rattle.shelf_io.specs.Front.{EndsReading}
use Rattle.shelf_io.specs.declared.whole_file.ReadAll.{ReadAll}
use Rattle.shelf_io.specs.declared.whole_file.ReadAll.TheVariants as ended
use Rattle.signal_cli.specs.inner.Causes.{Finds, Gives, ended_as}
use Rattle.signal_cli.specs.Worlds.{ForFiles, ForTold}
use Rattle.signal_cli.specs.declared.fault.Fault.{Fault}
use Rattle.signal_cli.specs.declared.fault.Fault.TheVariants.{Read, Memory}
use Rattle.signal_cli.specs.declared.input.Content.{Content}
use Rattle.signal_cli.specs.declared.input.Content.TheVariants.{TooLong, Whole}
use Rattle.signal_cli.specs.declared.input.Planned.{Planned}
use Rattle.signal_cli.specs.declared.reply.Reply.{Reply}

-- what holds of the files holds of them in other words
pub for_files : (told : Option Files) (P Q : Files → Type 0) → ((files : Files) → P files → Q files) → ForFiles told P → ForFiles told Q
for_files None P Q each (files, holds) = (files, each files holds)
for_files (Some files) P Q each holds = each files holds

pub for_told : (told : Option Files) (P Q : Files → Type 0) → ((files : Files) → P files → Q files) → ForTold told P → ForTold told Q
for_told None P Q each holds = holds
for_told (Some files) P Q each holds = each files holds

-- a file within the limit is seen whole, and a longer one is too long
is_whole : (limit : ℕ) (bytes : List ℕ) → length bytes ≤ limit → content_of limit bytes ≡ Whole bytes
is_whole limit bytes short =
    let test : nat_lt limit (length bytes) ≡ false = grind (arith, nat_tests) in
    ap (λ long. if long then TooLong else Whole bytes) test

is_too_long : (limit : ℕ) (bytes : List ℕ) → limit < length bytes → content_of limit bytes ≡ TooLong
is_too_long limit bytes long =
    let test : nat_lt limit (length bytes) ≡ true = grind (arith, nat_tests) in
    ap (λ long. if long then TooLong else Whole bytes) test

-- what a told file holds, or some file where files are not told
content_seen : (told : Option Files) (name bytes : List ℕ) (limit : ℕ) (content : Content) → content_of limit bytes ≡ content → IfTold told name (λ known. content_of limit known ≡ content) → ForFiles told (λ files. content_in files name limit ≡ Ok content)
content_seen None name bytes limit content seen known =
    (map.insert map.empty name bytes, ap (found limit) (get_same map.empty name bytes) ∙ ap Ok seen)
content_seen (Some files) name bytes limit content seen known =
    elim (bytes_of files name) as (λ there. MatchOption there ⊥ (λ known. content_of limit known ≡ content) → found limit there ≡ Ok content) [
      | None ↦ λ none. absurd none
      | Some bytes ↦ λ known. ap Ok known
    ] known

-- a change of what is known of a told file
if_told : (told : Option Files) (name : List ℕ) (P Q : List ℕ → Type 0) → ((bytes : List ℕ) → P bytes → Q bytes) → IfTold told name P → IfTold told name Q
if_told None name P Q each known = tt
if_told (Some files) name P Q each known =
    elim (bytes_of files name) as (λ there. MatchOption there ⊥ P → MatchOption there ⊥ Q) [
      | None ↦ λ none. none
      | Some bytes ↦ λ known. each bytes known
    ] known

pub whole_seen : (told : Option Files) (name bytes : List ℕ) (limit : ℕ) → length bytes ≤ limit → IfTold told name (λ known. bytes ≡ known) → ForFiles told (λ files. content_in files name limit ≡ Ok (Whole bytes))
whole_seen told name bytes limit short known =
    let P : List ℕ → Type 0 = λ known. bytes ≡ known in
    let Q : List ℕ → Type 0 = λ known. content_of limit known ≡ Whole bytes in
    content_seen told name bytes limit (Whole bytes) (is_whole limit bytes short) (if_told told name P Q (λ known same. ap (content_of limit) (sym same) ∙ is_whole limit bytes short) known)

too_long_seen : (told : Option Files) (name : List ℕ) (limit : ℕ) → IfTold told name (λ known. limit < length known) → ForFiles told (λ files. content_in files name limit ≡ Ok TooLong)
too_long_seen told name limit known =
    let P : List ℕ → Type 0 = λ known. limit < length known in
    let Q : List ℕ → Type 0 = λ known. content_of limit known ≡ TooLong in
    let bytes : List ℕ = replicate (limit + 1) 0 in
    let long : limit < length bytes = omega (arith, length-replicate {A = ℕ} (limit + 1) 0) in
    content_seen told name bytes limit TooLong (is_too_long limit bytes long) (if_told told name P Q (λ known. is_too_long limit known) known)

-- a file that could not be read
read_fault_found : (before after : ShelfState) (name : List ℕ) (limit : ℕ) → FailsToRead before name after → Finds (λ files outcome. content_in files name limit ≡ outcome) (Err Read) before after
read_fault_found before after name limit (inl counted) = inl counted
read_fault_found before after name limit (inr missing) = inr (missing.1, not_there before.files missing.0)
  where
    not_there : (told : Option Files) → IsMissing told name → ForTold told (λ files. content_in files name limit ≡ Err Read)
    not_there None none = none
    not_there (Some files) none = ap (found limit) none

-- a reading that ended before the whole file was read
pub ended_found : (end : ReadAll) (before after : ShelfState) (name : List ℕ) (limit : ℕ) → EndsReading end limit before name after → Finds (λ files outcome. content_in files name limit ≡ outcome) (ended_as end) before after
ended_found ended.TooLong before after name limit long = (long.0, too_long_seen before.files name limit long.1)
ended_found ended.Fault before after name limit failed = read_fault_found before after name limit failed
ended_found ended.Memory before after name limit same = same

-- What follows from what was read, without a further read.
pub found_then : {X Y : Type 0} (g : Files → Result X Fault) (next : X → Result Y Fault) (x : X) (made : Result Y Fault) (before after : ShelfState) → Finds (λ files outcome. g files ≡ outcome) (Ok x) before after → Gives made (next x) → Finds (λ files outcome. (g files >>= next) ≡ outcome) made before after
found_then g next x (Err Memory) before after read given = read.0
found_then g next x (Err Read) before after read given = absurd given
found_then g next x (Ok y) before after read given =
    (read.0, for_files before.files (λ files. g files ≡ Ok x) (λ files. (g files >>= next) ≡ Ok y) (λ files seen. ap (λ r. r >>= next) seen ∙ given) read.1)
found_then g next x (Err fault) before after read given =
    (read.0, for_files before.files (λ files. g files ≡ Ok x) (λ files. (g files >>= next) ≡ Err fault) (λ files seen. ap (λ r. r >>= next) seen ∙ given) read.1)

-- a fault ends a chain, whatever else would be read
pub found_fault : {X Y : Type 0} (g : Files → Result X Fault) (next : Files → X → Result Y Fault) (fault : Fault) (before after : ShelfState) → Finds (λ files outcome. g files ≡ outcome) (Err fault) before after → Finds (λ files outcome. (g files >>= next files) ≡ outcome) (Err fault) before after
found_fault g next Memory before after read = read
found_fault g next Read before after (inl counted) = inl counted
found_fault g next Read before after (inr missing) =
    inr (missing.0, for_told before.files (λ files. g files ≡ Err Read) (λ files. (g files >>= next files) ≡ Err Read) (λ files seen. ap (λ r. r >>= next files) seen) missing.1)
found_fault g next fault before after read =
    (read.0, for_files before.files (λ files. g files ≡ Err fault) (λ files. (g files >>= next files) ≡ Err fault) (λ files seen. ap (λ r. r >>= next files) seen) read.1)

-- Two files.

-- names that differ do so either way round
pub differ_too : (a b : List ℕ) → bytes_eq a b ≡ false → bytes_eq b a ≡ false
differ_too a b differ = by_test (bytes_eq b a) refl
  where
    by_test : (test : Bool) → bytes_eq b a ≡ test → bytes_eq b a ≡ false
    by_test false is = is
    by_test true is =
        let same : bytes_eq a b ≡ true = (bytes_eq-Decides a b).1 (sym ((bytes_eq-Decides b a).0 is)) in
        cc

-- a file has another name
abbrev pub apart_from : List ℕ → List ℕ → Type 0
apart_from name apart = bytes_eq apart name ≡ false

-- what g finds it finds beside whatever the files apart from its own hold
abbrev pub Beside : {X : Type 0} → (Files → Result X Fault) → (List ℕ → Type 0) → Type 0
Beside {X} g Apart = (x : X) (there other : Files) → g there ≡ Ok x → (both : Files) × (g both ≡ Ok x) × ((apart : List ℕ) → Apart apart → bytes_of both apart ≡ bytes_of other apart)

-- what one file holds, judged
beside_others : {X : Type 0} (name : List ℕ) (limit : ℕ) (judge : Content → Result X Fault) → Beside (λ files. content_in files name limit >>= judge) (apart_from name)
beside_others {X} name limit judge x there other is = by_seen (bytes_of there name) is
  where
    by_seen : (seen : Option (List ℕ)) → (found limit seen >>= judge) ≡ Ok x → (both : Files) × ((content_in both name limit >>= judge) ≡ Ok x) × ((apart : List ℕ) → bytes_eq apart name ≡ false → bytes_of both apart ≡ bytes_of other apart)
    by_seen None is = absurd (cc)
    by_seen (Some bytes) is = (
      map.insert other name bytes,
      ap (λ (seen : Option (List ℕ)). found limit seen >>= judge) (get_same other name bytes) ∙ is,
      λ apart differ. get_inserted other name bytes apart ∙ ap (λ (test : Bool). cond test (Some bytes) (map.get other apart)) differ,
    )

-- what follows from it without a further read
beside_then : {X Y : Type 0} (g : Files → Result X Fault) (next : X → Result Y Fault) (Apart : List ℕ → Type 0) → Beside g Apart → Beside (λ files. g files >>= next) Apart
beside_then {X} {Y} g next Apart beside y there other is = by_found (g there) refl is
  where
    by_found : (made : Result X Fault) → g there ≡ made → (made >>= next) ≡ Ok y → (both : Files) × ((g both >>= next) ≡ Ok y) × ((apart : List ℕ) → Apart apart → bytes_of both apart ≡ bytes_of other apart)
    by_found (Err fault) found is = absurd (cc)
    by_found (Ok x) found is =
        let joined = beside x there other found in
        (joined.0, ap (λ (made : Result X Fault). made >>= next) joined.1 ∙ is, joined.2)

-- the network in a file
pub network_beside : (name : List ℕ) → Beside (λ files. network_in files name) (apart_from name)
network_beside name = beside_others name MAX_FILE_BYTES network_from

-- the network in a file, its size judged
pub sized_beside : (name : List ℕ) → Beside (λ files. sized_in files name) (apart_from name)
sized_beside name = beside_then (λ files. network_in files name) sized (apart_from name) (network_beside name)

-- what g finds by one file, and what is made of it and of what the file `other` holds
module _ {X Y : Type 0} (g : Files → Result X Fault) (Apart : List ℕ → Type 0) (beside : Beside g Apart) (x : X) (next : Files → X → Result Y Fault) (other : List ℕ) (differ : Apart other) (of_other : (a b : Files) → bytes_of a other ≡ bytes_of b other → next a x ≡ next b x) where
  both_seen : (told : Option Files) (outcome : Result Y Fault) → ForFiles told (λ files. g files ≡ Ok x) → ForFiles told (λ files. next files x ≡ outcome) → ForFiles told (λ files. (g files >>= next files) ≡ outcome)
  both_seen None outcome (there, is_first) (elsewhere, is_second) =
      let joined = beside x there elsewhere is_first in (
        joined.0,
        ap (λ (made : Result X Fault). made >>= next joined.0) joined.1
            ∙ of_other joined.0 elsewhere (joined.2 other differ)
            ∙ is_second,
      )
  both_seen (Some files) outcome is_first is_second = ap (λ (made : Result X Fault). made >>= next files) is_first ∙ is_second

  other_missing : (told : Option Files) → ForFiles told (λ files. g files ≡ Ok x) → ForTold told (λ files. next files x ≡ Err Read) → ForTold told (λ files. (g files >>= next files) ≡ Err Read)
  other_missing None is_first is_second = is_second
  other_missing (Some files) is_first is_second = ap (λ (made : Result X Fault). made >>= next files) is_first ∙ is_second

  -- what two readings found, of which the second began where the first left the shelf
  pub found_next : (outcome : Result Y Fault) (before middle after : ShelfState) → Finds (λ files made. g files ≡ made) (Ok x) before middle → Finds (λ files made. next files x ≡ made) outcome middle after → Finds (λ files made. (g files >>= next files) ≡ made) outcome before after
  found_next outcome before middle after first second =
      from_start outcome (let P : ShelfState → Type 0 = λ shelf. Finds (λ files made. next files x ≡ made) outcome shelf after in subst P first.0 second)
    where
      from_start : (outcome : Result Y Fault) → Finds (λ files made. next files x ≡ made) outcome before after → Finds (λ files made. (g files >>= next files) ≡ made) outcome before after
      from_start (Err Memory) second = second
      from_start (Err Read) (inl counted) = inl counted
      from_start (Err Read) (inr missing) = inr (missing.0, other_missing before.files first.1 missing.1)
      from_start (Ok made) second = (second.0, both_seen before.files (Ok made) first.1 second.1)
      from_start (Err fault) second = (second.0, both_seen before.files (Err fault) first.1 second.1)

-- a network and a plan
abbrev planned : Named → Plan → Planned
planned named plan = record { named = named; plan = plan }

-- the plan behind a network that was found
behind : (named : Named) (plan : List ℕ) (outcome : Result Plan Fault) (before after : ShelfState) → Finds (λ files made. plan_in named files plan ≡ made) outcome before after → Finds (λ files made. with_plan (Ok named) files plan ≡ made) (outcome >>= (λ (plan : Plan). Ok (planned named plan))) before after
behind named plan (Ok made) before after second =
    found_then (λ files. plan_in named files plan) (λ (plan : Plan). Ok (planned named plan)) made (Ok (planned named made)) before after second refl
behind named plan (Err fault) before after second =
    found_fault (λ files. plan_in named files plan) (λ _ (plan : Plan). Ok (planned named plan)) fault before after second

-- the plan is that of its file
same_plan : (plan : List ℕ) (named : Named) (a b : Files) → bytes_of a plan ≡ bytes_of b plan → with_plan (Ok named) a plan ≡ with_plan (Ok named) b plan
same_plan plan named a b same =
    ap (λ (seen : Option (List ℕ)). (found MAX_FILE_BYTES seen >>= plan_from named) >>= (λ (plan : Plan). Ok (planned named plan))) same

-- a network that g finds by one file, and the plan for it in another
pub planned_found : (g : Files → Result Named Fault) (network : List ℕ) → Beside g (apart_from network) → (plan : List ℕ) → bytes_eq network plan ≡ false → (named : Named) (outcome : Result Plan Fault) (before middle after : ShelfState) → Finds (λ files made. g files ≡ made) (Ok named) before middle → Finds (λ files made. plan_in named files plan ≡ made) outcome middle after → Finds (λ files made. with_plan (g files) files plan ≡ made) (outcome >>= (λ (plan : Plan). Ok (planned named plan))) before after
planned_found g network beside plan differ named outcome before middle after first second =
    found_next g (apart_from network) beside named (λ files (named : Named). with_plan (Ok named) files plan) plan (differ_too network plan differ) (same_plan plan named)
    (outcome >>= (λ (plan : Plan). Ok (planned named plan))) before middle after first (behind named plan outcome middle after second)

-- what g finds by one file, and the plan for it in another, are found beside whatever the other files hold
planned_beside : (g : Files → Result Named Fault) (network : List ℕ) → Beside g (apart_from network) → (plan : List ℕ) → bytes_eq network plan ≡ false → Beside (λ files. with_plan (g files) files plan) (λ apart. apart_from network apart × apart_from plan apart)
planned_beside g network beside plan differ y there other is = by_found (g there) refl is
  where
    second : (named : Named) → Beside (λ files. with_plan (Ok named) files plan) (apart_from plan)
    second named = beside_then (λ files. plan_in named files plan) (λ (plan : Plan). Ok (planned named plan)) (apart_from plan) (beside_others plan MAX_FILE_BYTES (plan_from named))

    by_found : (made : Result Named Fault) → g there ≡ made → with_plan made there plan ≡ Ok y → (both : Files) × (with_plan (g both) both plan ≡ Ok y) × ((apart : List ℕ) → apart_from network apart × apart_from plan apart → bytes_of both apart ≡ bytes_of other apart)
    by_found (Err fault) found is = absurd (cc)
    by_found (Ok named) found is =
        let inner = second named y there other is in
        let joined = beside named there inner.0 found in (
          joined.0,
          ap (λ (made : Result Named Fault). with_plan made joined.0 plan) joined.1
              ∙ same_plan plan named joined.0 inner.0 (joined.2 plan (differ_too network plan differ))
              ∙ inner.1,
          λ apart differs. joined.2 apart differs.0 ∙ inner.2 apart differs.1,
        )

-- a network whose size was judged and the plan for it in another file
pub sized_planned_beside : (network plan : List ℕ) → bytes_eq network plan ≡ false → Beside (λ files. sized_planned_in files network plan) (λ apart. apart_from network apart × apart_from plan apart)
sized_planned_beside network plan differ = planned_beside (λ files. sized_in files network) network (sized_beside network) plan differ

-- A second file of any kind.

-- what was read first, and what a file holds
abbrev beside_content : {X : Type 0} → X → Content → Result (X × Content) Fault
beside_content x content = Ok (x, content)

-- the file behind what was found first
behind_first : {X : Type 0} (limit : ℕ) (x : X) (name : List ℕ) (outcome : Result Content Fault) (before after : ShelfState) → Finds (λ files made. content_in files name limit ≡ made) outcome before after → Finds (λ files made. with_content limit (Ok x) files name ≡ made) (outcome >>= beside_content x) before after
behind_first limit x name (Ok content) before after second =
    found_then (λ files. content_in files name limit) (beside_content x) content (Ok (x, content)) before after second refl
behind_first limit x name (Err fault) before after second =
    found_fault (λ files. content_in files name limit) (λ _. beside_content x) fault before after second

-- what g finds by files of its own, and what another holds
pub content_found : {X : Type 0} (limit : ℕ) (g : Files → Result X Fault) (Apart : List ℕ → Type 0) → Beside g Apart → (name : List ℕ) → Apart name → (x : X) (outcome : Result Content Fault) (before middle after : ShelfState) → Finds (λ files made. g files ≡ made) (Ok x) before middle → Finds (λ files made. content_in files name limit ≡ made) outcome middle after → Finds (λ files made. with_content limit (g files) files name ≡ made) (outcome >>= beside_content x) before after
content_found {X} limit g Apart beside name differ x outcome before middle after first second =
    found_next g Apart beside x (λ files (x : X). with_content limit (Ok x) files name) name differ
    (λ a b same. ap (λ (seen : Option (List ℕ)). found limit seen >>= beside_content x) same)
    (outcome >>= beside_content x) before middle after first (behind_first limit x name outcome middle after second)

-- What is due to what was read.

-- a fault comes in the place of a reply
fault_due : {X : Type 0} (IsDue : X → Reply → Type 0) (fault : Fault) (made : Result X Fault) → made ≡ Err fault → Follows made IsDue (Err fault)
fault_due {X} IsDue fault (Ok x) is = absurd (cc)
fault_due {X} IsDue fault (Err first) is =
    let same : first ≡ fault = cc in
    ap (λ (fault : Fault). Err fault) same

pub fault_follows : {X : Type 0} (g : Files → Result X Fault) (IsDue : X → Reply → Type 0) (fault : Fault) (before after : ShelfState) → Finds (λ files made. g files ≡ made) (Err fault) before after → Finds (λ files outcome. Follows (g files) IsDue outcome) (Err fault) before after
fault_follows g IsDue Memory before after read = read
fault_follows g IsDue Read before after (inl counted) = inl counted
fault_follows g IsDue Read before after (inr missing) =
    inr (missing.0, for_told before.files (λ files. g files ≡ Err Read) (λ files. Follows (g files) IsDue (Err Read)) (λ files seen. fault_due IsDue Read (g files) seen) missing.1)
fault_follows g IsDue fault before after read =
    (read.0, for_files before.files (λ files. g files ≡ Err fault) (λ files. Follows (g files) IsDue (Err fault)) (λ files seen. fault_due IsDue fault (g files) seen) read.1)

-- a reply that is due
pub reply_follows : {X : Type 0} (g : Files → Result X Fault) (IsDue : X → Reply → Type 0) (x : X) (reply : Reply) (before after : ShelfState) → Finds (λ files made. g files ≡ made) (Ok x) before after → IsDue x reply → Finds (λ files outcome. Follows (g files) IsDue outcome) (Ok reply) before after
reply_follows g IsDue x reply before after read due =
    (read.0, for_files before.files (λ files. g files ≡ Ok x) (λ files. Follows (g files) IsDue (Ok reply)) (λ files seen. rw seen due) read.1)
