-- What operations that run on records leave there, and what they are told.
use Rattle.std.proofs.Common.{◌≡◌, ℕ, Bool, true, false, ◌&&◌, T, cond, if◌then◌else◌, List, [], ◌∷◌, ◌++◌, map, filter, is_some, Option, None, Some, refl, sym, ap, ◌∙◌, subst, eqb→eq}
use Rattle.std.specs.Prelude.{◌==◌}
use Rattle.std.specs.declared.cmp.Ordering.{Ordering}
use Rattle.std.specs.declared.cmp.Ordering.TheVariants.{Less, Equal, Greater}
use Rattle.std.specs.Ordering.{is_eq}
use Rattle.std.specs.FinMap.{get, get-entries, get-insert, get-remove, entries, slice_cmp-IsAntisymmetric, nat_cmp-IsAntisymmetric}
use Rattle.std.specs.FinMap.Entries.{find}
use Rattle.std.proofs.lemmas.Cmp.{nat_list_cmp_total}
use Rattle.co_base.specs.Order.{key_cmp}
use Rattle.co_base.specs.Span.{Span, span_has}
use Rattle.co_base.specs.declared.op.Op.{Op}
use Rattle.co_base.specs.declared.op.Op.TheVariants.{Read, Write, Erase, Scan}
use Rattle.co_base.specs.declared.reply.Reply.{Reply}
use Rattle.co_serial.specs.Records.{Records, with_change, row_of, rows_within}
use Rattle.co_serial.specs.SerialRun.{AllRecords, with_at, records_after, reply_to, after_site, after_whole, run_whole}
use Rattle.co_state.specs.Keys.{same_key}
use Rattle.co_check.specs.declared.client.Answered.{Answered}
use Rattle.co_check.specs.Runs.{sites, replies}
use Rattle.co_order_check.specs.Reads.{Content, left_at, left_by, left_from, left, value_in, told_at, tells, over}
use Rattle.co_order_check.specs.declared.record_id.RecordId.{RecordId}

get_change : (records : Records) (k : List ℕ) (v : Content) (q : List ℕ) → get (with_change records k v) q ≡ cond (same_key q k) v (get records q)
get_change records k None q = get-remove nat_list_cmp_total records k q
get_change records k (Some w) q = get-insert nat_list_cmp_total records k w q

laid : (b : Bool) (held : Option Content) (v now x : Content) → now ≡ over held x → cond b v now ≡ over (if b then Some v else held) x
laid true held v now x e = refl
laid false held v now x e = e

op_leaves : (here : Bool) (records : Records) (key : List ℕ) (held : Option Content) (x : Content) (op : Op) → get records key ≡ over held x →
    get (if here then records_after records op else records) key ≡ over (left_at here key held op) x
op_leaves true records key held x (Read k) e = e
op_leaves true records key held x (Write k v) e = get_change records k (Some v) key ∙ laid (same_key key k) held (Some v) (get records key) x e
op_leaves true records key held x (Erase k) e = get_change records k None key ∙ laid (same_key key k) held None (get records key) x e
op_leaves true records key held x (Scan span) e = e
op_leaves false records key held x (Read k) e = e
op_leaves false records key held x (Write k v) e = e
op_leaves false records key held x (Erase k) e = e
op_leaves false records key held x (Scan span) e = e

-- the records of a member after an operation at some member
moved : (all : AllRecords) (m n : ℕ) (op : Op) (b : Bool) → (m == n) ≡ b → (if b then records_after (all m) op else all n) ≡ (if b then records_after (all n) op else all n)
moved all m n op true e = ap (λ k. records_after (all k) op) (eqb→eq m n (subst T (sym e) tt))
moved all m n op false e = refl

pub site_leaves : (all : AllRecords) (r : RecordId) (held : Option Content) (x : Content) (m : ℕ) (op : Op) → get (all r.member) r.key ≡ over held x →
    get (with_at all m (records_after (all m) op) r.member) r.key ≡ over (left_by r held m op) x
site_leaves all r held x m op e =
    ap (λ (z : Records). get z r.key) (moved all m r.member op (m == r.member) refl) ∙ op_leaves (m == r.member) (all r.member) r.key held x op e

-- operations leave in a record what the last one that changes it left there
pub run_leaves : (all : AllRecords) (told : List Answered) (r : RecordId) (held : Option Content) (x : Content) → get (all r.member) r.key ≡ over held x →
    get (after_whole all (sites told) r.member) r.key ≡ over (left_from r held told) x
run_leaves all [] r held x e = e
run_leaves all (a ∷ told) r held x e =
    run_leaves (after_site all a.site) told r (left_by r held a.site.member a.site.op) x (site_leaves all r held x a.site.member a.site.op e)

-- ---- what is told

pub same_is : (q k : List ℕ) → same_key q k ≡ true → q ≡ k
same_is q k h = by (key_cmp q k) refl h
  where
    by : (o : Ordering) → key_cmp q k ≡ o → is_eq o ≡ true → q ≡ k
    by Less e f = absurd (let z : false ≡ true = f in cc)
    by Equal e f = slice_cmp-IsAntisymmetric nat_cmp-IsAntisymmetric q k e
    by Greater e f = absurd (let z : false ≡ true = f in cc)

row_among : (t s : Bool) (q : List ℕ) (e : List ℕ × List ℕ) (es : List (List ℕ × List ℕ)) (rest : List (List ℕ × List ℕ)) → (s ≡ true → t ≡ true) → same_key q e.0 ≡ s →
    value_in (map row_of rest) q ≡ find key_cmp q es → value_in (map row_of (cond t (e ∷ rest) rest)) q ≡ cond s (Some e.1) (find key_cmp q es)
row_among true s q e es rest k f h = ap (λ b. if b then Some e.1 else value_in (map row_of rest) q) f ∙ ap (λ z. cond s (Some e.1) z) h
row_among false true q e es rest k f h = absurd (let z : false ≡ true = k refl in cc)
row_among false false q e es rest k f h = h

rows_have : (span : Span) (q : List ℕ) → span_has span q ≡ true → (es : List (List ℕ × List ℕ)) →
    value_in (map row_of (filter (λ e. span_has span e.0) es)) q ≡ find key_cmp q es
rows_have span q h [] = refl
rows_have span q h (e ∷ es) =
    row_among (span_has span e.0) (same_key q e.0) q e es (filter (λ z. span_has span z.0) es) (λ s. ap (span_has span) (sym (same_is q e.0 s)) ∙ h) refl (rows_have span q h es)

both : (a b : Bool) → (a && b) ≡ true → (a ≡ true) × (b ≡ true)
both true b h = (refl, h)
both false b h = absurd (let z : false ≡ true = h in cc)

chosen : (b : Bool) (x v : Content) → (if b then Some x else None) ≡ Some v → (b ≡ true) × (x ≡ v)
chosen true x v h = (refl, (let z : Some x ≡ Some v = h in cc))
chosen false x v h = absurd (let z : None ≡ Some v = h in cc)

member_is : (m n : ℕ) → (m == n) ≡ true → m ≡ n
member_is m n h = eqb→eq m n (subst T (sym h) tt)

op_told : (all : AllRecords) (r : RecordId) (m : ℕ) (op : Op) (v : Content) → told_at (m == r.member) r.key op (reply_to (all m) op) ≡ Some v → get (all r.member) r.key ≡ v
op_told all r m (Read k) v h =
    let c = chosen ((m == r.member) && same_key r.key k) (get (all m) k) v h in
    let b = both (m == r.member) (same_key r.key k) c.0 in
    (λ i. get (all (sym (member_is m r.member b.0) i)) (same_is r.key k b.1 i)) ∙ c.1
op_told all r m (Write k w) v h = absurd (let z : None ≡ Some v = h in cc)
op_told all r m (Erase k) v h = absurd (let z : None ≡ Some v = h in cc)
op_told all r m (Scan span) v h =
    let c = chosen ((m == r.member) && span_has span r.key) (value_in (rows_within (all m) span) r.key) v h in
    let b = both (m == r.member) (span_has span r.key) c.0 in
    ap (λ n. get (all n) r.key) (sym (member_is m r.member b.0)) ∙ get-entries (all m) r.key ∙ sym (rows_have span r.key b.1 (entries (all m))) ∙ c.1

-- what an operation is told of a record is what stands there
pub told_is : (all : AllRecords) (r : RecordId) (a : Answered) (v : Content) → a.reply ≡ reply_to (all a.site.member) a.site.op → tells r a ≡ Some v → get (all r.member) r.key ≡ v
told_is all r a v e h = op_told all r a.site.member a.site.op v (ap (told_at (a.site.member == r.member) r.key a.site.op) (sym e) ∙ h)
