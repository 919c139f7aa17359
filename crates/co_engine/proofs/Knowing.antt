-- What a player knows, after each call.
use Rattle.std.proofs.Common.{◌≡◌, T, ℕ, Bool, true, false, cond, ◌||◌, List, ◌∷◌, if◌then◌else◌, is_some, Option, None, Some, IsTrue, refl, sym, ap, ◌∙◌, subst, eqb→eq, eq-eqb, ◌+◌, ◌<◌, length, drop, get_or, arith}
use Rattle.std.proofs.lemmas.List.{drop_more, drop_all}
use Rattle.co_base.specs.declared.head.Kind.{Kind}
use Rattle.co_serial.specs.Records.{Records}
use Rattle.co_pairs.specs.declared.prepared.Prepared.{Prepared}
use Rattle.std.specs.Prelude.{◌==◌}
use Rattle.std.specs.FinMap.{get-empty, nat_cmp-IsAntisymmetric}
use Rattle.std.specs.Ordering.{nat_cmp, eq_by_cmp, is_eq}
use Rattle.std.specs.Cmp.{nat_cmp_total, both_ways, eq_by_cmp_equiv}
use Rattle.std.specs.declared.cmp.Ordering.{Ordering}
use Rattle.std.specs.declared.cmp.Ordering.TheVariants.{Less, Equal, Greater}
use Rattle.co_base.specs.declared.op.Op.{Op}
use Rattle.co_base.specs.declared.reply.Reply.{Reply}
use Rattle.co_state.specs.declared.engine_state.EngineState.{EngineState}
use Rattle.co_state.specs.declared.engine_state.Operation.{Operation}
use Rattle.co_state.specs.declared.engine_state.Vote.{Vote}
use Rattle.co_state.specs.Table.{Table, no_entries, look, put, without, holds}
use Rattle.co_state.specs.Effects.{restored, after_operation, after_cast, after_install, after_drop, with_operation, install_vote}
use Rattle.co_state.specs.LockRule.{lock_blocker}
use Rattle.co_state.specs.ReadRule.{operation_reply}
use Rattle.co_state.proofs.Tables.{look-put, look-without}
use Rattle.co_engine.specs.declared.answers.Seen.TheVariants.{Answer, Blocked}
use Rattle.co_engine.specs.declared.known.Known.{Known}
use Rattle.co_engine.specs.Calls.{votes_of, vote_in, is_installed, seen_by, seen_of}
use Rattle.co_engine.specs.Known.{IsKnown}

cond-some : {X : Type 0} (b : Bool) (x : X) (o : Option X) → is_some (cond b (Some x) o) ≡ cond b true (is_some o)
cond-some true x o = refl
cond-some false x o = refl

cond-none : {X : Type 0} (b : Bool) (o : Option X) → is_some (cond b None o) ≡ cond b false (is_some o)
cond-none true o = refl
cond-none false o = refl

pub holds-put : {X : Type 0} (m : Table X) (t : ℕ) (x : X) (u : ℕ) → holds (put m t x) u ≡ cond (eq_by_cmp nat_cmp u t) true (holds m u)
holds-put m t x u = ap is_some (look-put m t x u) ∙ cond-some _ x (look m u)

pub holds-without : {X : Type 0} (m : Table X) (t u : ℕ) → holds (without m t) u ≡ cond (eq_by_cmp nat_cmp u t) false (holds m u)
holds-without m t u = ap is_some (look-without m t u) ∙ cond-none _ (look m u)

put_both : {X Y : Type 0} (m : Table X) (n : Table Y) (t : ℕ) (x : X) (y : Y) → ((u : ℕ) → holds m u ≡ holds n u) → (u : ℕ) → holds (put m t x) u ≡ holds (put n t y) u
put_both m n t x y same u = holds-put m t x u ∙ ap (cond (eq_by_cmp nat_cmp u t) true) (same u) ∙ sym (holds-put n t y u)

without_both : {X Y : Type 0} (m : Table X) (n : Table Y) (t : ℕ) → ((u : ℕ) → holds m u ≡ holds n u) → (u : ℕ) → holds (without m t) u ≡ holds (without n t) u
without_both m n t same u = holds-without m t u ∙ ap (cond (eq_by_cmp nat_cmp u t) false) (same u) ∙ sym (holds-without n t u)

equal-tie : (r : Ordering) → is_eq r ≡ true → r ≡ Equal
equal-tie Less e = absurd (subst T (sym e) tt)
equal-tie Equal e = refl
equal-tie Greater e = absurd (subst T (sym e) tt)

-- numbers that tie are equal
pub ties : (u t : ℕ) → eq_by_cmp nat_cmp u t ≡ (t == u)
ties u t = both_ways _ _
    (λ e. eq-eqb t u (sym (nat_cmp-IsAntisymmetric u t (equal-tie (nat_cmp u t) e))))
    (λ e. subst (λ k. eq_by_cmp nat_cmp u k ≡ true) (sym (eqb→eq t u (subst T (sym e) tt))) ((eq_by_cmp_equiv nat_cmp_total).refl u))

cond-or : (b c : Bool) → cond b true c ≡ (b || c)
cond-or true c = refl
cond-or false c = refl

-- one prepared transaction more
pub voted_more : (m : Table Unit) (ps : List Prepared) (p place : ℕ) (x : Prepared) → p < length ps → p + 1 ≡ place → x ≡ get_or ps p x
    → ((t : ℕ) → holds m t ≡ holds (votes_of (drop place ps)) t) → (t : ℕ) → holds (put m x.txn tt) t ≡ holds (votes_of (drop p ps)) t
voted_more m ps p place x h e is same t =
    put_both m (votes_of (drop place ps)) x.txn tt (vote_in x) same t
    ∙ ap (λ qs. holds (votes_of qs) t) (ap (λ n. x ∷ drop n ps) (sym e) ∙ ap (λ y. y ∷ drop (p + 1) ps) is ∙ sym (drop_more ps p x h))

pub holds-none : (X : Type 0) (t : ℕ) → holds (no_entries {X = X}) t ≡ false
holds-none X t = ap is_some (get-empty nat_cmp t)

pub none_voted : (ps : List Prepared) (t : ℕ) → holds (no_entries {X = Unit}) t ≡ holds (votes_of (drop (length ps) ps)) t
none_voted ps t = holds-none Unit t ∙ sym (ap (λ qs. holds (votes_of qs) t) (drop_all (length ps) ps (omega arith)) ∙ holds-none Vote t)

-- at the start
pub known_restored : (voted : Table Unit) (ps : List Prepared) (kind : Kind) (records : Records) → ((t : ℕ) → holds voted t ≡ holds (votes_of ps) t)
    → IsKnown (record { active = no_entries; voted = voted; installed = no_entries }) (restored kind records (votes_of ps))
known_restored voted ps kind records same = record {
  active = λ t. holds-none Unit t ∙ sym (holds-none (List Operation) t);
  voted = same;
  installed = λ t. holds-none Unit t;
}

pub known_with : (known : Known) (b : EngineState) (t : ℕ) (op : Op) → IsKnown known b → IsKnown (record known { active = put known.active t tt }) (with_operation b t op)
known_with known b t op k = record {
  active = put_both known.active b.active t tt _ k.active;
  voted = k.voted;
  installed = k.installed;
}

pub known_cast : (known : Known) (b : EngineState) (t : ℕ) → IsKnown known b → IsKnown (record known { active = without known.active t; voted = put known.voted t tt }) (after_cast b t 0 0)
known_cast known b t k = record {
  active = without_both known.active b.active t k.active;
  voted = put_both known.voted b.voted t tt _ k.voted;
  installed = k.installed;
}

pub known_drop : (known : Known) (b : EngineState) (t : ℕ) → IsKnown known b → IsKnown (record known { active = without known.active t; voted = without known.voted t }) (after_drop b t)
known_drop known b t k = record {
  active = without_both known.active b.active t k.active;
  voted = without_both known.voted b.voted t k.voted;
  installed = k.installed;
}

known_installed : (known : Known) (b : EngineState) (t : ℕ) (o : Option Vote) → is_some o ≡ true → IsKnown known b → IsKnown (record known { voted = without known.voted t; installed = put known.installed t tt }) (install_vote b t o)
known_installed known b t None e k = absurd (subst T (sym e) tt)
known_installed known b t (Some vote) e k = record {
  active = k.active;
  voted = without_both known.voted b.voted t k.voted;
  installed = λ u. holds-put known.installed t tt u ∙ ap (cond (eq_by_cmp nat_cmp u t) true) (k.installed u) ∙ ap (λ e. cond e true (is_installed b.installed u)) (ties u t) ∙ cond-or (t == u) (is_installed b.installed u);
}

is_true : (b : Bool) → IsTrue b → b ≡ true
is_true b h = h

pub known_install : (known : Known) (b : EngineState) (t : ℕ) → IsTrue (holds b.voted t) → IsKnown known b → IsKnown (record known { voted = without known.voted t; installed = put known.installed t tt }) (after_install b t)
known_install known b t h k = known_installed known b t (look b.voted t) (is_true (holds b.voted t) h) k

answered_by : (known : Known) (b : EngineState) (t : ℕ) (op : Op) (o : Option ℕ) (reply r : Reply) → Answer r ≡ seen_by o reply → IsKnown known b
    → IsKnown (record known { active = put known.active t tt }) (if is_some o then b else with_operation b t op)
answered_by known b t op None reply r e k = known_with known b t op k
answered_by known b t op (Some u) reply r e k = absurd (let f : Answer r ≡ Blocked u = e in cc)

-- an operation that was answered
pub known_answered : (known : Known) (b : EngineState) (t : ℕ) (op : Op) (r : Reply) → Answer r ≡ seen_of b t op → IsKnown known b
    → IsKnown (record known { active = put known.active t tt }) (after_operation b t op)
known_answered known b t op r e k = answered_by known b t op (lock_blocker b t op) (operation_reply b t op) r e k
