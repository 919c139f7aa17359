use Rattle.std.proofs.Common.{◌≤◌, length, arith}
use Rattle.co_disk.proofs.Lays.{at_ok}
use Rattle.co_disk.proofs.Leaving.{begin_others, end_first, end_others, image_reached, shortened_told, shortened_image, cleaned_told, synced_image}
use Rattle.co_disk.proofs.laying.lay_image.Goals as goal

pub lay_all-requires-clause-at : goal.lay_all-requires-clause-at
lay_all-requires-clause-at g c = begin_others c.args.first.now c.args.touched.now ((g.H.Home.seen c.args.home.now).reach c.args.spot) c.requires.ready.1.begins

pub returns-in_err-lay_all-clause-memory : goal.returns-in_err-lay_all-clause-memory
returns-in_err-lay_all-clause-memory g c ends memory =
    let reach = (g.H.Home.seen c.args.home.now).reach c.args.spot in
    let safe = c.in_err-lay_all.ensures.memory (end_first c.args.first.now c.args.touched.now reach ends) (end_others c.args.first.now c.args.touched.now reach ends) in
    grind (arith, safe, memory, c.from_residual.ensures, c.in_err-lay_all.is)

pub set_len-requires : goal.set_len-requires
set_len-requires g c =
    let disk = c.requires.ready.0 in
    let t = c.requires.ready.1 in
    let laid = c.in_ok-lay_all.ensures.laid disk t.pending t.image_is.no_longer t.images in
    let stable : length disk.stable ≤ (g.H.Home.seen c.lay_all.new.home).reach c.args.spot = omega (arith, t.stable, c.lay_all.ensures.reach) in
    image_reached disk t.sound c.args.image.now t.image_is ((g.H.Home.seen c.lay_all.new.home).file c.args.spot) ((g.H.Home.seen c.lay_all.new.home).reach c.args.spot) stable laid

pub returns-clause-agrees : goal.returns-clause-agrees
returns-clause-agrees g c =
    let disk = c.requires.ready.0 in
    let t = c.requires.ready.1 in
    let laid = c.in_ok-lay_all.ensures.laid disk t.pending t.image_is.no_longer t.images in
    let stable : length disk.stable ≤ (g.H.Home.seen c.lay_all.new.home).reach c.args.spot = omega (arith, t.stable, c.lay_all.ensures.reach) in
    let whole = shortened_told disk t.sound c.args.image.now t.image_is ((g.H.Home.seen c.lay_all.new.home).file c.args.spot) ((g.H.Home.seen c.lay_all.new.home).reach c.args.spot) stable laid (λ f told. g.met.H.Home.told_reach c.lay_all.new.home c.args.spot f told) ((g.H.Home.seen c.set_len.new.self).file c.args.spot) c.in_ok-set_len.ensures.shortened in
    at_ok c.sync.result c.sync.ensures.cleaned c.sync.ensures.cleaned (λ changed _. record {
      told = λ f told. (cleaned_told c.args.image.now ((g.H.Home.seen c.set_len.new.self).file c.args.spot) ((g.H.Home.seen c.sync.new.self).file c.args.spot) whole changed f told).0;
      room = omega (arith, c.in_ok-set_len.ensures.reach, c.sync.ensures.reach);
    })

pub returns-clause-images : goal.returns-clause-images
returns-clause-images g c disk t =
    let laid = c.in_ok-lay_all.ensures.laid disk t.pending t.image_is.no_longer t.images in
    let stable : length disk.stable ≤ (g.H.Home.seen c.lay_all.new.home).reach c.args.spot = omega (arith, t.stable, c.lay_all.ensures.reach) in
    let cut = shortened_image disk t.sound c.args.image.now t.image_is ((g.H.Home.seen c.lay_all.new.home).file c.args.spot) ((g.H.Home.seen c.lay_all.new.home).reach c.args.spot) stable laid (λ f told. g.met.H.Home.told_reach c.lay_all.new.home c.args.spot f told) ((g.H.Home.seen c.set_len.new.self).file c.args.spot) c.in_ok-set_len.ensures.shortened in
    synced_image c.sync.result disk ((g.H.Home.seen c.set_len.new.self).file c.args.spot) ((g.H.Home.seen c.sync.new.self).file c.args.spot) cut c.sync.ensures.cleaned c.sync.ensures.stays
