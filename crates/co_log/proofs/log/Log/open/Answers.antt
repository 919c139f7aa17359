use Rattle.std.proofs.Common.{◌≡◌, ◌≢◌, ◌∙◌, sym, ap, subst, inl, inr, false}
use Rattle.std.specs.Prelude.{Option, Some, IfSome, IfNone}
use Rattle.co_base.specs.Limits.{most_log_bytes}
use Rattle.co_outside.specs.Home.{File}
use Rattle.co_outside.specs.declared.spot.Spot.{Spot}
use Rattle.co_disk.specs.DiskView.{DiskView}
use Rattle.co_log.specs.Attaching.{used_of, IsToldAs, IsLonger}
use Rattle.co_log.specs.LogView.{spot_of}
use Rattle.co_log.proofs.Attached.{used_longer, unused_within, unused_text}
use Rattle.co_log.proofs.log.Log.open.Goals as goal

pub returns-then-is_used-2-clause-faults : goal.returns-then-is_used-2-clause-faults
returns-then-is_used-2-clause-faults g c =
    let here = c.spot_of-spot_a.ensures in
    let there = c.spot_of-spot_b.ensures in
    let apart : c.spot_of-spot_b.result ≢ c.spot_of-spot_a.result = λ e. absurd (let h : 1 ≡ 0 = ap (λ (s : Spot). s.part) (sym there ∙ e ∙ here) in cc) in
    let kept = c.in_ok-a.ensures.rest.others.files c.spot_of-spot_b.result apart in
    let told_a = subst (λ (s : Spot). IfSome c.in_ok-a.a (λ d. IsToldAs s ((g.H.Home.seen c.args.home.now).file s) d)) here c.in_ok-a.ensures.told in
    let told_b = subst (λ (f : Option File). IfSome c.in-Ok.b (λ d. IsToldAs c.spot_of-spot_b.result f d)) kept c.in-Ok.ensures.told in
    let long_b = subst (λ (f : Option File). IfNone c.in-Ok.b (IsLonger most_log_bytes f)) kept c.in-Ok.ensures.told_long in
    let unused_a = unused_within c.in_ok-a.a (spot_of c.args.node 0) ((g.H.Home.seen c.args.home.now).file (spot_of c.args.node 0)) (sym c.is_used.ensures ∙ c.if-is_used.false) told_a in
    let used_b = used_longer c.in-Ok.b c.spot_of-spot_b.result ((g.H.Home.seen c.args.home.now).file c.spot_of-spot_b.result) (sym c.is_used-2.ensures ∙ c.if-is_used-2.true) told_b long_b in
    (c.if-resume.false, inr (there, unused_a, subst (λ (s : Spot). IsLonger 1 ((g.H.Home.seen c.args.home.now).file s)) there used_b))

pub returns-clause-attached : goal.returns-clause-attached
returns-clause-attached g c =
    let here = c.spot_of-spot_a.ensures in
    let there = c.spot_of-spot_b.ensures in
    let apart : c.spot_of-spot_b.result ≢ c.spot_of-spot_a.result = λ e. absurd (let h : 1 ≡ 0 = ap (λ (s : Spot). s.part) (sym there ∙ e ∙ here) in cc) in
    let kept = c.in_ok-a.ensures.rest.others.files c.spot_of-spot_b.result apart in
    let a = c.in-Some-Some.a in
    let b = c.in-Some-Some.b in
    let told_a : IsToldAs (spot_of c.args.node 0) ((g.H.Home.seen c.args.home.now).file (spot_of c.args.node 0)) a =
    subst (λ (o : Option DiskView). IfSome o (λ d. IsToldAs (spot_of c.args.node 0) ((g.H.Home.seen c.args.home.now).file (spot_of c.args.node 0)) d)) c.in-Some-Some.is-0
    (subst (λ (s : Spot). IfSome c.in_ok-a.a (λ d. IsToldAs s ((g.H.Home.seen c.args.home.now).file s) d)) here c.in_ok-a.ensures.told) in
    let told_b : IsToldAs (spot_of c.args.node 1) ((g.H.Home.seen c.args.home.now).file (spot_of c.args.node 1)) b =
    subst (λ (o : Option DiskView). IfSome o (λ d. IsToldAs (spot_of c.args.node 1) ((g.H.Home.seen c.args.home.now).file (spot_of c.args.node 1)) d)) c.in-Some-Some.is-1
    (subst (λ (s : Spot). IfSome c.in-Ok.b (λ d. IsToldAs s ((g.H.Home.seen c.args.home.now).file s) d)) there
    (subst (λ (f : Option File). IfSome c.in-Ok.b (λ d. IsToldAs c.spot_of-spot_b.result f d)) kept c.in-Ok.ensures.told)) in
    let unused_a : used_of (Some a) ≡ false = sym (ap used_of c.in-Some-Some.is-0) ∙ sym c.is_used.ensures ∙ c.if-is_used.false in
    let unused_b : used_of (Some b) ≡ false = sym (ap used_of c.in-Some-Some.is-1) ∙ sym c.is_used-2.ensures ∙ c.if-is_used-2.false in
    (a, b, told_a, told_b, inl (c.build.ensures, unused_text a told_a.still unused_a, unused_text b told_b.still unused_b))
