use Rattle.std.proofs.Common.{◌≡◌, ◌∙◌, ap, refl, length, arith}
use Rattle.co_outside.specs.Stored.{is_of, bytes_at}
use Rattle.std.specs.List.{position}
use Rattle.std.proofs.lemmas.Bool.Decides.{nat_tests}
use Rattle.co_outside.specs.declared.stored.Stored.{Stored}
use Rattle.co_outside.proofs.Overlays.{laid_over_none}
use Rattle.co_outside.proofs.Files.{found, missing, absent, pushed, pushed_others}
use Rattle.co_outside.proofs.stored.lay_at.Goals as goal

pub lay-requires : goal.lay-requires
lay-requires c =
    let there = (found c.args.spot c.args.files.now.items c.in-Some.place (c.in-Some.ensures ∙ ap (position (is_of c.args.spot)) c.deref.ensures.value)).1 in
    let bytes : c.index_mut.result.now.bytes.items ≡ bytes_at c.args.files.now.items c.args.spot = ap (λ f. f.bytes.items) c.index_mut.ensures.value ∙ there.bytes c.index_mut.result.now in
    omega (arith, c.index_mut.result.now.bytes.ok, ap length bytes)

pub returns-in_err-bytes-in-None-2-clause-memory : goal.returns-in_err-bytes-in-None-2-clause-memory
returns-in_err-bytes-in-None-2-clause-memory c inside =
    let none = absent c.args.spot c.args.files.now.items (missing c.args.spot c.args.files.now.items (c.in-None-2.ensures ∙ ap (position (is_of c.args.spot)) c.deref.ensures.value)) in
    absurd (let e = ap length none in let some = c.if-is_empty.false in grind (arith, nat_tests, c.is_empty.ensures))

pub returns-in_err-push-in-None-2-clause-memory : goal.returns-in_err-push-in-None-2-clause-memory
returns-in_err-push-in-None-2-clause-memory c inside =
    let none = absent c.args.spot c.args.files.now.items (missing c.args.spot c.args.files.now.items (c.in-None-2.ensures ∙ ap (position (is_of c.args.spot)) c.deref.ensures.value)) in
    absurd (let e = ap length none in let some = c.if-is_empty.false in grind (arith, nat_tests, c.is_empty.ensures))

pub returns-in-Some-clause-laid : goal.returns-in-Some-clause-laid
returns-in-Some-clause-laid c =
    let there = (found c.args.spot c.args.files.now.items c.in-Some.place (c.in-Some.ensures ∙ ap (position (is_of c.args.spot)) c.deref.ensures.value)).1 in
    let is_its = ap (λ f. f.spot) c.index_mut.ensures.value ∙ there.its_spot c.index_mut.result.now in
    let bytes : c.index_mut.result.now.bytes.items ≡ bytes_at c.args.files.now.items c.args.spot = ap (λ f. f.bytes.items) c.index_mut.ensures.value ∙ there.bytes c.index_mut.result.now in
    let now : Stored = record { spot = c.index_mut.result.now.spot; bytes = c.lay.new.bytes } in
    rw (there.changed now is_its, ← bytes) c.lay.ensures.laid

pub returns-in-Some-clause-stays : goal.returns-in-Some-clause-stays
returns-in-Some-clause-stays c =
    let there = (found c.args.spot c.args.files.now.items c.in-Some.place (c.in-Some.ensures ∙ ap (position (is_of c.args.spot)) c.deref.ensures.value)).1 in
    let is_its = ap (λ f. f.spot) c.index_mut.ensures.value ∙ there.its_spot c.index_mut.result.now in
    let bytes : c.index_mut.result.now.bytes.items ≡ bytes_at c.args.files.now.items c.args.spot = ap (λ f. f.bytes.items) c.index_mut.ensures.value ∙ there.bytes c.index_mut.result.now in
    let now : Stored = record { spot = c.index_mut.result.now.spot; bytes = c.lay.new.bytes } in
    rw (there.changed now is_its, ← bytes) c.lay.ensures.stays

pub returns-in-Some-clause-others : goal.returns-in-Some-clause-others
returns-in-Some-clause-others c =
    let there = (found c.args.spot c.args.files.now.items c.in-Some.place (c.in-Some.ensures ∙ ap (position (is_of c.args.spot)) c.deref.ensures.value)).1 in
    let is_its = ap (λ f. f.spot) c.index_mut.ensures.value ∙ there.its_spot c.index_mut.result.now in
    there.others _ is_its

pub returns-in-Some-clause-memory : goal.returns-in-Some-clause-memory
returns-in-Some-clause-memory c inside =
    let there = (found c.args.spot c.args.files.now.items c.in-Some.place (c.in-Some.ensures ∙ ap (position (is_of c.args.spot)) c.deref.ensures.value)).1 in
    let bytes : c.index_mut.result.now.bytes.items ≡ bytes_at c.args.files.now.items c.args.spot = ap (λ f. f.bytes.items) c.index_mut.ensures.value ∙ there.bytes c.index_mut.result.now in
    c.lay.ensures.memory (omega (arith, c.index_mut.result.now.bytes.ok, ap length bytes))

pub returns-in_ok-push-in-None-2-clause-laid : goal.returns-in_ok-push-in-None-2-clause-laid
returns-in_ok-push-in-None-2-clause-laid c =
    let nothing = missing c.args.spot c.args.files.now.items (c.in-None-2.ensures ∙ ap (position (is_of c.args.spot)) c.deref.ensures.value) in
    let none = absent c.args.spot c.args.files.now.items nothing in
    ap (λ files. bytes_at files c.args.spot) c.in_ok-push-in-None-2.ensures.items ∙ pushed c.args.spot c.args.files.now.items _ refl nothing ∙ c.in_ok-bytes-in-None-2.ensures.items ∙ laid_over_none _ c.args.at c.args.piece.now none

pub returns-in_ok-push-in-None-2-clause-others : goal.returns-in_ok-push-in-None-2-clause-others
returns-in_ok-push-in-None-2-clause-others c s other =
    ap (λ files. bytes_at files s) c.in_ok-push-in-None-2.ensures.items ∙ pushed_others c.args.spot c.args.files.now.items _ refl s other
