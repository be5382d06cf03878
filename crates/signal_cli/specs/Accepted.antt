-- Which certificates `check` and `gap` accept, where files are told: exactly those whose text shows its bound (docs/certificate.md,
-- "What is accepted"). And which files `point` takes: exactly those that are the text of an integer point (docs/program.md, "From a
-- point to its plan").
use Rattle.std.specs.Prelude.{◌≡◌, ℕ, ◌≤◌, ◌⊎◌, ℤ, List, Option, Some, Result, Ok, IfSome}
use Rattle.shelf_io.specs.Told.{Files, with_taken}
use Rattle.ct_base.specs.declared.net.Net.{Net}
use Rattle.named_net.specs.Naming.{Named}
use Rattle.program_text.specs.declared.constants.TheConstants.{MAX_POINT_BYTES}
use Rattle.certificate_model.specs.Verdicts.{Accepts}
use Rattle.certificate_model.specs.declared.constants.TheConstants.{MAX_CERTIFICATE_BYTES}
use Rattle.signal_cli.specs.Answers.{content_in, network_in, sized_in, sized_planned_in}
use Rattle.signal_cli.specs.BoundLines.{accepted_lines, gap_lines}
use Rattle.signal_cli.specs.Commands.{Check, Command, Gap, Point}
use Rattle.signal_cli.specs.Points.{IsPointText}
use Rattle.signal_cli.specs.Worlds.{NoneFailed, World}
use Rattle.signal_cli.specs.declared.fault.Fault.{Fault}
use Rattle.signal_cli.specs.declared.input.Content.{Content}
use Rattle.signal_cli.specs.declared.input.Content.TheVariants.{TooLong, Whole}

-- a file holds a text that shows the bound for the network
abbrev pub Shows : Net → Content → ℤ → Type 0
Shows net TooLong bound = ⊥
Shows net (Whole text) bound = Accepts net text bound

-- what the two files hold: a network, and a certificate of at most so many bytes, or a longer file
pub record HoldsBoth (files : Files) (network certificate : List ℕ) : Type 0 where
  pub named : Named
  pub network_is : network_in files network ≡ Ok named
  pub content : Content
  pub content_is : content_in files certificate MAX_CERTIFICATE_BYTES ≡ Ok content

-- the files before the certificate are accepted, and the certificate's file is there
pub record CanBeJudged {X : Type 0} (first : Result X Fault) (files : Files) (certificate : List ℕ) : Type 0 where
  pub made : X
  pub made_is : first ≡ Ok made
  pub content : Content
  pub content_is : content_in files certificate MAX_CERTIFICATE_BYTES ≡ Ok content

-- status 0 comes only where the certificate shows a bound, and that one was put; status 1 only where it shows none; and no other
-- status comes than these two and that of want of memory, where the files can be judged and no call on files or output failed
pub record Decides {X : Type 0} (first : Result X Fault) (files : Files) (network certificate : List ℕ) (before after : World) (Puts : ℤ → Type 0) (status : ℕ) : Type 0 where
  pub accepted : status ≡ 0 → (bound : ℤ) × (holds : HoldsBoth files network certificate) × Puts bound × Shows holds.named.net holds.content bound
  pub rejected : status ≡ 1 → (holds : HoldsBoth files network certificate) × ((bound : ℤ) → ¬ Shows holds.named.net holds.content bound)
  pub complete : NoneFailed before after → CanBeJudged first files certificate → (status ≤ 1) ⊎ (status ≡ 8)

-- the lines with a bound were put
abbrev pub PutsAccepted : World → World → ℤ → Type 0
PutsAccepted before after bound = after.out ≡ with_taken before.out (accepted_lines bound)

-- the lines of some delay with a bound were put
abbrev pub PutsCompared : World → World → ℤ → Type 0
PutsCompared before after bound = (delay : ℕ) × (after.out ≡ with_taken before.out (gap_lines delay bound))

-- a file of at most so many bytes holds the text of an integer point
abbrev pub HoldsPoint : Net → Content → Type 0
HoldsPoint net TooLong = ⊥
HoldsPoint net (Whole text) = IsPointText net text

-- what the two files hold: a network whose program is not too large, and a text of at most so many bytes, or a longer one
pub record CanBeDecoded (files : Files) (network point : List ℕ) : Type 0 where
  pub named : Named
  pub network_is : sized_in files network ≡ Ok named
  pub content : Content
  pub content_is : content_in files point MAX_POINT_BYTES ≡ Ok content

-- status 0 comes only where the text is that of an integer point, and status 1 only where it is not; and no other status comes than
-- these two and that of want of memory, where both files can be judged and no call on files or output failed
pub record DecidesPoint (files : Files) (network point : List ℕ) (before after : World) (status : ℕ) : Type 0 where
  pub decoded : status ≡ 0 → (both : CanBeDecoded files network point) × HoldsPoint both.named.net both.content
  pub refused : status ≡ 1 → (both : CanBeDecoded files network point) × ¬ HoldsPoint both.named.net both.content
  pub complete : NoneFailed before after → CanBeDecoded files network point → (status ≤ 1) ⊎ (status ≡ 8)

-- what `check`, `gap` and `point` decide where files are told
unfoldable pub IsExact : Option Command → World → World → ℕ → Type 0
IsExact (Some (Point network point)) before after status = IfSome before.shelf.files (λ files. DecidesPoint files network point before after status)
IsExact (Some (Check network certificate)) before after status = IfSome before.shelf.files (λ files. Decides (sized_in files network) files network certificate before after (PutsAccepted before after) status)
IsExact (Some (Gap network plan certificate)) before after status = IfSome before.shelf.files (λ files. Decides (sized_planned_in files network plan) files network certificate before after (PutsCompared before after) status)
IsExact _ before after status = Unit {0}
