-- Why a history has no order.
use Rattle.std.proofs.Common.{◌≡◌, ◌≢◌, inl, inr, ℕ, zero, suc, ◌<◌, Bool, true, false, not, cond, List, [], ◌∷◌, map, filter, reverse, length, get_or, take, slice_get, is_some, Option, None, Some, Result, Ok, Err, IfOk, refl, sym, ap, ◌∙◌, subst, arith}
use Rattle.std.specs.FinMap.{get, entries}
use Rattle.co_base.specs.Span.{Span, span_has}
use Rattle.co_base.specs.declared.op.Op.{Op}
use Rattle.co_base.specs.declared.op.Op.TheVariants.{Read, Write, Erase, Scan}
use Rattle.co_base.specs.declared.row.Row.{Row}
use Rattle.co_serial.specs.Records.{Records, row_of, rows_within}
use Rattle.co_serial.specs.SerialRun.{reply_to, after_whole}
use Rattle.co_check.specs.Runs.{sites}
use Rattle.co_check.specs.declared.client.Answered.{Answered}
use Rattle.co_check.specs.declared.client.Committed.{Committed}
use Rattle.co_order_check.specs.Order.{no_one, at, operations, IsSerialOrder, HasNoOrder}
use Rattle.co_order_check.specs.Paths.{ReadsFromOthers}
use Rattle.co_order_check.specs.Ranks.{IsUntouched, IsLeftBy, IsSeen, Ran, Ranks}
use Rattle.co_order_check.specs.Reads.{Content, left}
use Rattle.co_order_check.specs.Torn.{IsOddTo, IsOutsideOf, DiffersFromOwn, DiffersFromOthers, IsToldOfOthers, IsTorn, Kind, Outside, Own, Twice}
use Rattle.co_order_check.specs.declared.record_id.RecordId.{RecordId}
use Rattle.co_order_check.proofs.Ranking.{ranks}
use Rattle.co_order_check.proofs.Serving.{any_default}
use Rattle.co_order_check.proofs.Walking.{reply_at, told_from_others, told_own, reads_seen}

pub operations_at : (ds : List Committed) (t : ℕ) (d : Committed) (told : List Answered) → t < length ds → told ≡ reverse (get_or ds t d).told → told ≡ operations ds t
operations_at ds t d told h e = e ∙ ap {A = Committed} (λ z. reverse z.told) (any_default ds t d no_one h)

pub get_at : {A : Type 0} (xs : List A) (i : ℕ) (x : A) → i < length xs → x ≡ get_or xs i x → slice_get xs i ≡ Some x
get_at [] i x h e = absurd (omega arith)
get_at (y ∷ xs) zero x h e = ap Some (sym e)
get_at (y ∷ xs) (suc i) x h e = get_at xs i x (omega arith) e

-- ---- what no order explains

pub unwritten_refutes : (ds : List Committed) (t place : ℕ) (r : RecordId) (v : Content) (source : Option ℕ) → is_some source ≡ false → is_some v ≡ true → ReadsFromOthers ds t place r v →
    ((u : ℕ) → u < length ds → u ≢ t → Some u ≢ source → left r (operations ds u) ≢ Some v) → Ranks ds → ⊥
unwritten_refutes ds t place r v source none some reads only w = by (reads_seen w t place r v reads)
  where
    by : IsSeen ds w.rank t r v → ⊥
    by (inl n) = let z : false ≡ true = sym (ap is_some n.missing) ∙ some in cc
    by (inr (s, l)) =
        only s l.one (λ e. let z = ap w.rank e in let b = l.before in omega (arith, z, b)) (λ e. let z : true ≡ false = ap is_some e ∙ none in cc) l.left_there

odd_never : (records : Records) (op : Op) → IsOddTo op (reply_to records op) → ⊥
odd_never records (Read k) h = h
odd_never records (Write k v) h = h
odd_never records (Erase k) h = h
odd_never records (Scan span) h = h

kept_inside : (span : Span) (b : Bool) (e : List ℕ × List ℕ) (rest : List (List ℕ × List ℕ)) (i : ℕ) (row : Row) → span_has span e.0 ≡ b →
    ((j : ℕ) → slice_get (map row_of rest) j ≡ Some row → span_has span row.key ≡ true) → slice_get (map row_of (cond b (e ∷ rest) rest)) i ≡ Some row → span_has span row.key ≡ true
kept_inside span true e rest zero row f k h = let same : row_of e ≡ row = cc in subst (λ (z : Row). span_has span z.key ≡ true) same f
kept_inside span true e rest (suc i) row f k h = k i h
kept_inside span false e rest i row f k h = k i h

inside : (span : Span) (es : List (List ℕ × List ℕ)) (i : ℕ) (row : Row) → slice_get (map row_of (filter (λ e. span_has span e.0) es)) i ≡ Some row → span_has span row.key ≡ true
inside span [] i row h = absurd (let z : None ≡ Some row = h in cc)
inside span (e ∷ es) i row h = kept_inside span (span_has span e.0) e (filter (λ z. span_has span z.0) es) i row refl (λ j k. inside span es j row k) h

outside_never : (records : Records) (op : Op) → IsOutsideOf op (reply_to records op) → ⊥
outside_never records (Read k) h = h
outside_never records (Write k v) h = h
outside_never records (Erase k) h = h
outside_never records (Scan span) (i, row, e, f) = let z : true ≡ false = sym (inside span (entries records) i row e) ∙ f in cc

pub torn_refutes : (ds : List Committed) (t : ℕ) → t < length ds → IsTorn (operations ds t) → Ranks ds → ⊥
torn_refutes ds t h (Kind place a e odd) w =
    let ran = w.ran t h in
    odd_never (after_whole ran.on (sites (take place (operations ds t))) a.site.member) a.site.op (subst (IsOddTo a.site.op) (reply_at ran.on (operations ds t) place a ran.same e) odd)
torn_refutes ds t h (Outside place a e out) w =
    let ran = w.ran t h in
    outside_never (after_whole ran.on (sites (take place (operations ds t))) a.site.member) a.site.op (subst (IsOutsideOf a.site.op) (reply_at ran.on (operations ds t) place a ran.same e) out)
torn_refutes ds t h (Own place r d) w =
    let ran = w.ran t h in
    d.differs (told_own ran.on (operations ds t) place d.at r d.own d.content ran.same d.is_at d.is_own d.is_told)
torn_refutes ds t h (Twice one other r d) w =
    let ran = w.ran t h in
    d.differs (sym (told_from_others ran.on (operations ds t) one d.is_first.at r d.first ran.same d.is_first.is_at d.is_first.own d.is_first.is_told)
    ∙ told_from_others ran.on (operations ds t) other d.is_second.at r d.second ran.same d.is_second.is_at d.is_second.own d.is_second.is_told)

pub no_order : (ds : List Committed) → (Ranks ds → ⊥) → HasNoOrder ds
no_order ds never order o = never (ranks ds order o)

pub if_ok : {X E : Type 0} (r : Result X E) {P Q : X → Type 0} → ((x : X) → P x → Q x) → IfOk r P → IfOk r Q
if_ok (Ok x) f h = f x h
if_ok (Err e) f h = tt
