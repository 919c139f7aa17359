-- No federation has a member 0.
use Rattle.std.proofs.Common.{ℕ, ◌≡◌, ◌≤◌, ◌==◌, if◌then◌else◌, List, length, refl, ap, arith}
use Rattle.co_snap.specs.Looks.{HasSeen, numbered}
use Rattle.co_top.specs.Looking.{LookedAfter}
use Rattle.co_top.specs.declared.reader.Ask.{Ask}
use Rattle.co_top.specs.declared.reader.Looked.{Looked}
use Rattle.co_top.specs.declared.reader.Looked.TheVariants as looked

-- nor a member 255
too_many : (input : List ℕ) (ask : Ask) (seen : Looked) (l : LookedAfter input (numbered ask) seen) → ask.member ≡ 0 → (numbered ask).member ≤ length l.fresh.ran.head.kinds → ⊥
too_many input ask seen l e h =
    let few = l.fresh.ran.head.members in
    let at : (numbered ask).member ≡ 255 = ap (λ m. if m == 0 then 255 else m) e in
    omega (arith, few, at, h)

missing : (input : List ℕ) (ask : Ask) (seen : Looked) → LookedAfter input (numbered ask) seen → ask.member ≡ 0 → seen ≡ looked.NoMember
missing input ask looked.NoMember l e = refl
missing input ask looked.Unopened l e = absurd (too_many input ask looked.Unopened l e l.sees.0)
missing input ask looked.NotMv l e = absurd (too_many input ask looked.NotMv l e l.sees.0.member)
missing input ask looked.Down l e = absurd (too_many input ask looked.Down l e l.sees.0.member)
missing input ask looked.Lost l e = absurd (too_many input ask looked.Lost l e l.sees.0.member)
missing input ask (looked.Rows rows) l e = absurd (too_many input ask (looked.Rows rows) l e l.sees.0.member)

pub has_seen : (input : List ℕ) (ask : Ask) (seen : Looked) → LookedAfter input (numbered ask) seen → HasSeen input ask seen
has_seen input ask seen l = (l, missing input ask seen l)
