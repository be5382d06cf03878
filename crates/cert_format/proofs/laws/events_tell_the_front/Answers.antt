-- One event after another.
use Rattle.cert_format.proofs.ReaderLaws.{told_are_the_front}
use Rattle.cert_format.proofs.laws.events_tell_the_front.Goals as goal

pub returns : goal.returns
returns c = record {
  bound = λ events text told. (told_are_the_front events text told).0;
  nodes = λ events text told. (told_are_the_front events text told).1;
}
