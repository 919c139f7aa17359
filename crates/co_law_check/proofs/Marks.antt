-- The marks of an event: what they decide, in the account of a transcript as in the federation.
use Rattle.std.proofs.Common.{◌≡◌, ◌≢◌, ℕ, Bool, true, false, ◌==◌, ◌||◌, List, [], ◌∷◌, Option, None, Some, if◌then◌else◌, refl, sym, ap, ◌∙◌, subst, arith}
use Rattle.std.proofs.lemmas.Bool.{eqb-true, eqb-false}
use Rattle.std.proofs.lemmas.Bool.Decides.{nat_tests}
use Rattle.co_base.specs.declared.mark.Mark.{Mark}
use Rattle.co_base.specs.declared.mark.MarkKind.{MarkKind}
use Rattle.co_base.specs.declared.mark.MarkKind.TheVariants as kind
use Rattle.co_base.specs.declared.node.Node.{Node}
use Rattle.co_state.specs.Table.{Table, look, put}
use Rattle.co_plain.specs.Decisions.{told_in, is_decided}
use Rattle.co_plain.specs.Federation.{decided_where, decided_by_kind, decide_all}
use Rattle.co_plain.specs.Promises.{AreDecidedOnce}
use Rattle.co_base.specs.Nodes.{same_node}
use Rattle.co_plain.specs.declared.session.Decided.{Decided}
use Rattle.co_plain.specs.declared.session.Session.{Session}
use Rattle.co_law_base.proofs.Lookups.{put_here, put_there}
use Rattle.co_check.specs.Account.{Account, client_in, client_of, committed_at, commits_at, is_by, marked, marked_by}
use Rattle.co_check.specs.declared.client.Client.{Client}
use Rattle.co_law_check.specs.Told.{by_in, AreAlike, Tells}

-- ---- tables of clients

pub client_here : (clients : Table Client) (t : ℕ) (c : Client) → client_in (look (put clients t c) t) ≡ c
client_here clients t c = ap client_in (put_here clients t c)

pub client_there : (clients : Table Client) (t : ℕ) (c : Client) (u : ℕ) → t ≢ u → client_in (look (put clients t c) u) ≡ client_in (look clients u)
client_there clients t c u n = ap client_in (put_there clients t c u n)

-- what holds of one number and of each other one holds of all
pub at_each : (P : ℕ → Type 0) (t : ℕ) → P t → ((u : ℕ) → t ≢ u → P u) → (u : ℕ) → P u
at_each P t here there u = by (t == u) refl
  where
    by : (b : Bool) → (t == u) ≡ b → P u
    by true e = subst P (eqb-true t u e) here
    by false e = there u (eqb-false t u e)

-- ---- decisions are made once

-- whether the node decides the transaction of a session
abbrev grown : Bool → ℕ → Session → List Decided → List Decided
grown b t session decided = if b then record { txn = t; told = session.told } ∷ decided else decided

grown_once : (b : Bool) (t : ℕ) (session : Session) (decided : List Decided) → AreDecidedOnce (grown b t session decided) → AreDecidedOnce decided
grown_once true t session decided h = h.1
grown_once false t session decided h = h

kind_once : (k : MarkKind) (o : Option Session) (at : Node) (t : ℕ) (decided : List Decided) → AreDecidedOnce (decided_by_kind k o at t decided) → AreDecidedOnce decided
kind_once kind.Commit None at t decided h = h
kind_once kind.Commit (Some session) at t decided h = grown_once (same_node session.by at) t session decided h
kind_once kind.Header o at t decided h = h
kind_once kind.Prepare o at t decided h = h
kind_once kind.Abort o at t decided h = h
kind_once kind.End o at t decided h = h
kind_once kind.Checkpoint o at t decided h = h

pub once_before : (sessions : Table Session) (marks : List Mark) (decided : List Decided) → AreDecidedOnce (decide_all sessions decided marks) → AreDecidedOnce decided
once_before sessions [] decided h = h
once_before sessions (mark ∷ marks) decided h =
    let o = look sessions mark.number in
    kind_once mark.kind o mark.node mark.number decided (once_before sessions marks (decided_by_kind mark.kind o mark.node mark.number decided) h)

-- ---- one mark

-- what an account becomes, and for which decisions it stands then
pub record Becomes (o : Option Account) (sessions : Table Session) (decided : List Decided) : Type 0 where
  pub account : Account
  pub is : o ≡ Some account
  pub tells : Tells account sessions decided

pub own : (t : ℕ) → (t == t) ≡ true
own t = grind (arith, nat_tests)

pub other : (t u : ℕ) → t ≢ u → (t == u) ≡ false
other t u n = grind (arith, nat_tests, n)

module _ (sessions : Table Session) (decided : List Decided) (a : Account) (m : Tells a sessions decided) where
  module _ (t : ℕ) (session : Session) (is : look sessions t ≡ Some session) (fresh : is_decided decided t ≡ false) where
    abbrev now : Account
    now = record {
      clients = put a.clients t (record { by = (client_of a t).by; told = []; decided = true });
      committed = record { txn = t; told = (client_of a t).told } ∷ a.committed;
    }

    abbrev more : List Decided
    more = record { txn = t; told = session.told } ∷ decided

    more_other : (u : ℕ) → t ≢ u → is_decided more u ≡ is_decided decided u
    more_other u n = ap (λ b. b || is_decided decided u) (other t u n)

    more_own : is_decided more t ≡ true
    more_own = ap (λ b. b || is_decided decided t) (own t)

    decides : Tells now sessions more
    decides = record {
      by = at_each (λ u. (client_of now u).by ≡ by_in (look sessions u)) t
          (ap (λ (c : Client). c.by) (client_here a.clients t (record { by = (client_of a t).by; told = []; decided = true })) ∙ m.by t)
          (λ u n. ap (λ (c : Client). c.by) (client_there a.clients t (record { by = (client_of a t).by; told = []; decided = true }) u n) ∙ m.by u);
      told = at_each (λ u. is_decided more u ≡ false → AreAlike (client_of now u).told (told_in (look sessions u))) t
          (λ h. absurd (let z : true ≡ false = sym more_own ∙ h in cc))
          (λ u n h. subst (λ (c : Client). AreAlike c.told (told_in (look sessions u))) (sym (client_there a.clients t (record { by = (client_of a t).by; told = []; decided = true }) u n)) (m.told u (sym (more_other u n) ∙ h)));
      settled = at_each (λ u. (client_of now u).decided ≡ is_decided more u) t
          (ap (λ (c : Client). c.decided) (client_here a.clients t (record { by = (client_of a t).by; told = []; decided = true })) ∙ sym more_own)
          (λ u n. ap (λ (c : Client). c.decided) (client_there a.clients t (record { by = (client_of a t).by; told = []; decided = true }) u n) ∙ m.settled u ∙ sym (more_other u n));
      committed = (refl, subst (λ o. AreAlike (client_of a t).told (told_in o)) is (m.told t fresh), m.committed);
    }

  commit_by : (at : Node) (t : ℕ) (session : Session) → look sessions t ≡ Some session → (b : Bool) → AreDecidedOnce (grown b t session decided) →
      Becomes (commits_at a t (client_of a t) b) sessions (grown b t session decided)
  commit_by at t session is false once = record { account = a; is = refl; tells = m }
  commit_by at t session is true once =
      record { account = now t session is once.0; is = ap (committed_at a t (client_of a t)) (m.settled t ∙ once.0); tells = decides t session is once.0 }

  commit_mark : (at : Node) (t : ℕ) (o : Option Session) → look sessions t ≡ o → AreDecidedOnce (decided_where o at t decided) → Becomes (marked_by kind.Commit a at t) sessions (decided_where o at t decided)
  commit_mark at t None is once = record { account = a; is = ap (λ by. commits_at a t (client_of a t) (is_by by at)) (m.by t ∙ ap by_in is); tells = m }
  commit_mark at t (Some session) is once =
      let done = commit_by at t session is (same_node session.by at) once in
      record { account = done.account; is = ap (λ by. commits_at a t (client_of a t) (is_by by at)) (m.by t ∙ ap by_in is) ∙ done.is; tells = done.tells }

  mark_by : (k : MarkKind) (at : Node) (t : ℕ) → AreDecidedOnce (decided_by_kind k (look sessions t) at t decided) → Becomes (marked_by k a at t) sessions (decided_by_kind k (look sessions t) at t decided)
  mark_by kind.Commit at t once = commit_mark at t (look sessions t) refl once
  mark_by kind.Header at t once = record { account = a; is = refl; tells = m }
  mark_by kind.Prepare at t once = record { account = a; is = refl; tells = m }
  mark_by kind.Abort at t once = record { account = a; is = refl; tells = m }
  mark_by kind.End at t once = record { account = a; is = refl; tells = m }
  mark_by kind.Checkpoint at t once = record { account = a; is = refl; tells = m }

  pub one_mark : (mark : Mark) → AreDecidedOnce (decided_by_kind mark.kind (look sessions mark.number) mark.node mark.number decided) →
      Becomes (marked a mark) sessions (decided_by_kind mark.kind (look sessions mark.number) mark.node mark.number decided)
  one_mark mark once = mark_by mark.kind mark.node mark.number once
