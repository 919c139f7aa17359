use Rattle.std.proofs.Common.{◌≡◌, inl, inr, ◌++◌, ℕ, List, Option, Some, take, Result, Ok, Err, refl, subst, rules}
use Rattle.co_outside.specs.Faults.{HasRisen}
use Rattle.co_outside.specs.Sink.{HasNoted}
use Rattle.co_outside.specs.declared.sink.SinkFault.{SinkFault}
use Rattle.co_outside.specs.declared.sink.SinkFault.TheVariants.{Failed, Memory}
use Rattle.std.specs.Prelude.{OnOk, OnErr, IsErrOf}
use Rattle.co_top.specs.Ends.{note_of}
use Rattle.co_top.proofs.top.told.Goals as goal

-- how a text was put
noted_as : (held text : List ℕ) (told : Option (List ℕ)) (faults faults_now lacks lacks_now : ℕ) (r : Result (Unit {0}) SinkFault) → OnOk r (told ≡ Some (held ++ text)) →
    OnErr r ((count : ℕ) × (told ≡ Some (held ++ take count text))) → (IsErrOf r Failed → HasRisen faults faults_now) → (IsErrOf r Memory → HasRisen lacks lacks_now) →
    HasNoted held text told faults faults_now lacks lacks_now
noted_as held text told faults faults_now lacks lacks_now (Ok done) whole front failed memory = inl whole
noted_as held text told faults faults_now lacks lacks_now (Err Failed) whole front failed memory = inr (front, inl (failed refl))
noted_as held text told faults faults_now lacks lacks_now (Err Memory) whole front failed memory = inr (front, inr (memory refl))

pub returns-clause-noted : goal.returns-clause-noted
returns-clause-noted g c held told =
    let notes = c.put_all.new.sink in
    let old = c.args.notes.now in
    let is : c.as_slice.result.now ≡ note_of c.args.status = search rules in
    subst (λ text. HasNoted held text (g.N.Sink.told notes) (g.N.Sink.faults old) (g.N.Sink.faults notes) (g.N.Sink.lacks old) (g.N.Sink.lacks notes)) is
    (noted_as held c.as_slice.result.now (g.N.Sink.told notes) (g.N.Sink.faults old) (g.N.Sink.faults notes) (g.N.Sink.lacks old) (g.N.Sink.lacks notes) c.put_all.result
    (c.put_all.ensures.appended held told) (c.put_all.ensures.front held told) c.put_all.ensures.failed c.put_all.ensures.memory)
