-- What a client was told, run whole on records: the replies of a member's kept operations, of a vote, and of the
-- serial run.
use Rattle.std.proofs.Common.{◌≡◌, ℕ, suc, Bool, true, false, ◌==◌, if◌then◌else◌, List, [], ◌∷◌, ◌++◌, map, reverse, length, Option, None, Some, refl, sym, ap, ◌∙◌, subst}
use Rattle.std.proofs.lemmas.List.{reverse-append}
use Rattle.std.proofs.lemmas.Bool.{or_left, or_right, eqb-true, eq-eqb}
use Rattle.std.specs.FinMap.{get}
use Rattle.co_base.specs.Span.{Span, span_has}
use Rattle.co_base.specs.declared.op.Op.{Op}
use Rattle.co_base.specs.declared.op.Op.TheVariants.{Read, Write, Erase, Scan}
use Rattle.co_base.specs.declared.written.Written.{Written}
use Rattle.co_serial.specs.declared.site.Site.{Site}
use Rattle.co_serial.specs.Records.{Records, with_changes}
use Rattle.co_serial.specs.SerialRun.{AllRecords, reply_to, records_after, after_site, run_whole, after_whole, after}
use Rattle.co_state.specs.declared.engine_state.EngineState.{EngineState}
use Rattle.co_state.specs.declared.engine_state.Operation.{Operation}
use Rattle.co_state.specs.Keys.{reads_key, writes_key, reads_meet}
use Rattle.co_state.specs.Changes.{span_read, change_made, with_span, with_written, spans_of, changes_of}
use Rattle.co_state.specs.EngineState.{installed_records}
use Rattle.co_plain.specs.declared.session.Told.{Told}
use Rattle.co_plain.specs.declared.session.Decided.{Decided}
use Rattle.co_plain.specs.Sessions.{told_at}
use Rattle.co_plain.specs.Federation.{Federation}
use Rattle.co_plain.specs.Decisions.{sites_of, replies_of}
use Rattle.co_plain.specs.DurableRecords.{starting_records}
use Rattle.co_plain.specs.Promises.{serial_records}
use Rattle.co_plain.specs.Invariants.{told_spans, told_changes, Replays, KeptAsTold}
use Rattle.co_law_engine.proofs.Keys.{changes_agree, unchanged}
use Rattle.co_law_engine.proofs.SeenAlike.{AgreeOn, replies_agree}
use Rattle.co_law_engine.proofs.SetsMade.{reads-put, get-put, ascends-put, Ascends, unread}
use Rattle.co_law_engine.proofs.YesTells.{SeeInstalled}

pub agree_under : (span : Option Span) (r s : Records) (ws : List Written) → AgreeOn span r s → AgreeOn span (with_changes r ws) (with_changes s ws)
agree_under None r s ws h = tt
agree_under (Some span) r s ws h = λ q i. changes_agree ws r s q (h q i)

-- The kept operations of a transaction whose reads see what is installed: run whole on the installed records they
-- give what the client was told.
pub record CastReplays (r : Records) (os : List Operation) (told : List Told) : Type 0 where
  pub replays : Replays r told
  pub reads : spans_of os ≡ told_spans told
  pub writes : changes_of os ≡ told_changes told
  pub as_many : length os ≡ length told

pub cast_replays : (b : EngineState) (os : List Operation) (told : List Told) → KeptAsTold b os told → SeeInstalled b.base b.installed os → CastReplays (installed_records b) os told
cast_replays b [] [] k f = record { replays = tt; reads = refl; writes = refl; as_many = refl }
cast_replays b [] (t ∷ ts) k f = absurd k
cast_replays b (o ∷ os) [] k f = absurd k
cast_replays b (o ∷ os) (t ∷ ts) k f =
    let rest = cast_replays b os ts k.2 f.1 in
    record {
      replays = (
        k.1
            ∙ replies_agree o.op _ _ (agree_under (span_read o.op) _ _ (changes_of os) f.0)
            ∙ (λ i. reply_to (with_changes (installed_records b) (rest.writes i)) (k.0 i)),
        rest.replays,
      );
      reads = λ i. with_span (span_read (k.0 i)) (rest.reads i);
      writes = λ i. with_written (change_made (k.0 i)) (rest.writes i);
      as_many = ap suc rest.as_many;
    }

reads_first : (o : Op) (spans : List Span) (r s : Records) → ((q : List ℕ) → reads_key (with_span (span_read o) spans) q ≡ true → get r q ≡ get s q) → AgreeOn (span_read o) r s
reads_first o spans r s h = by (span_read o) h
  where
    by : (span : Option Span) → ((q : List ℕ) → reads_key (with_span span spans) q ≡ true → get r q ≡ get s q) → AgreeOn span r s
    by None h = tt
    by (Some span) h = λ q i. h q (reads-put span spans q ∙ or_left (span_has span q) (reads_key spans q) i)

pub reads_rest : (span : Option Span) (spans : List Span) (q : List ℕ) → reads_key spans q ≡ true → reads_key (with_span span spans) q ≡ true
reads_rest None spans q h = h
reads_rest (Some span) spans q h = reads-put span spans q ∙ or_right (span_has span q) (reads_key spans q) h

-- replies stay right on records that agree on all that was read
pub replays_agree : (told : List Told) (r s : Records) → ((q : List ℕ) → reads_key (told_spans told) q ≡ true → get r q ≡ get s q) → Replays r told → Replays s told
replays_agree [] r s h p = tt
replays_agree (o ∷ os) r s h p = (
  p.0 ∙ replies_agree o.site.op _ _ (agree_under (span_read o.site.op) r s (told_changes os) (reads_first o.site.op (told_spans os) r s h)),
  replays_agree os r s (λ q i. h q (reads_rest (span_read o.site.op) (told_spans os) q i)) p.1,
)

-- and under changes that meet none of its reads
pub replays_under : (told : List Told) (r : Records) (ws : List Written) → reads_meet (told_spans told) ws ≡ false → Replays r told → Replays (with_changes r ws) told
replays_under told r ws h p = replays_agree told r (with_changes r ws) (λ q i. by q (writes_key ws q) refl i) p
  where
    by : (q : List ℕ) (b : Bool) → writes_key ws q ≡ b → reads_key (told_spans told) q ≡ true → get r q ≡ get (with_changes r ws) q
    by q true e i = absurd (let f : true ≡ false = sym i ∙ unread (told_spans told) ws q h e in cc)
    by q false e i = sym (unchanged ws r q e)

told_ascend : (told : List Told) → Ascends (told_changes told)
told_ascend [] = tt
told_ascend (o ∷ os) = by (change_made o.site.op) (told_ascend os)
  where
    by : (c : Option Written) → Ascends (told_changes os) → Ascends (with_written c (told_changes os))
    by None a = a
    by (Some c) a = ascends-put c (told_changes os) a

-- one more site at the end
sites_more : (o : Told) (os : List Told) → sites_of (o ∷ os) ≡ sites_of os ++ o.site ∷ []
sites_more o os = reverse-append (o.site ∷ []) (map (λ x. x.site) os)

run_more : (all : AllRecords) (xs ys : List Site) → run_whole all (xs ++ ys) ≡ run_whole all xs ++ run_whole (after_whole all xs) ys
run_more all [] ys = refl
run_more all (x ∷ xs) ys = ap (λ rs. reply_to (all x.member) x.op ∷ rs) (run_more (after_site all x) xs ys)

left_more : (all : AllRecords) (xs ys : List Site) → after_whole all (xs ++ ys) ≡ after_whole (after_whole all xs) ys
left_more all [] ys = refl
left_more all (x ∷ xs) ys = left_more (after_site all x) xs ys

after_more : (all : AllRecords) (xs ys : List (List Site)) → after all (xs ++ ys) ≡ after (after all xs) ys
after_more all [] ys = refl
after_more all (x ∷ xs) ys = after_more (after_whole all x) xs ys

-- one more decided transaction
pub serial_next : (s : Federation) (d : Decided) (ds : List Decided) → serial_records s (d ∷ ds) ≡ after_whole (serial_records s ds) (sites_of d.told)
serial_next s d ds =
    ap (after (starting_records s)) (reverse-append (sites_of d.told ∷ []) (map (λ e. sites_of e.told) ds))
    ∙ after_more (starting_records s) (reverse (map (λ e. sites_of e.told) ds)) (sites_of d.told ∷ [])

op_leaves : (o : Op) (told : List Told) (r x : Records) (q : List ℕ) → ((k : List ℕ) → get x k ≡ get (with_changes r (told_changes told)) k) →
    get (records_after x o) q ≡ get (with_changes r (with_written (change_made o) (told_changes told))) q
op_leaves (Read key) told r x q h = h q
op_leaves (Scan span) told r x q h = h q
op_leaves (Write key value) told r x q h =
    changes_agree (record { key = key; value = Some value } ∷ []) x (with_changes r (told_changes told)) q (h q)
    ∙ sym (get-put (record { key = key; value = Some value }) (told_changes told) r q (told_ascend told))
op_leaves (Erase key) told r x q h =
    changes_agree (record { key = key; value = None } ∷ []) x (with_changes r (told_changes told)) q (h q)
    ∙ sym (get-put (record { key = key; value = None }) (told_changes told) r q (told_ascend told))

-- what a transaction leaves at each member: the changes that it made there
pub leaves_changes : (all : AllRecords) (told : List Told) (m : ℕ) (q : List ℕ) → get (after_whole all (sites_of told) m) q ≡ get (with_changes (all m) (told_changes (told_at told m))) q
leaves_changes all [] m q = refl
leaves_changes all (o ∷ os) m q =
    ap (λ f. get (f m) q) (ap (after_whole all) (sites_more o os) ∙ left_more all (sites_of os) (o.site ∷ []))
    ∙ by (leaves_changes all os) (o.site.member == m) refl
  where
    by : ((n : ℕ) (k : List ℕ) → get (after_whole all (sites_of os) n) k ≡ get (with_changes (all n) (told_changes (told_at os n))) k) →
        (b : Bool) → (o.site.member == m) ≡ b →
        get (after_site (after_whole all (sites_of os)) o.site m) q ≡ get (with_changes (all m) (told_changes (told_at (o ∷ os) m))) q
    by rest true e =
        ap (λ b. get (if b then records_after (after_whole all (sites_of os) o.site.member) o.site.op else after_whole all (sites_of os) m) q) e
        ∙ ap (λ n. get (records_after (after_whole all (sites_of os) n) o.site.op) q) (eqb-true o.site.member m e)
        ∙ op_leaves o.site.op (told_at os m) (all m) (after_whole all (sites_of os) m) q (rest m)
        ∙ ap (λ b. get (with_changes (all m) (told_changes (if b then o ∷ told_at os m else told_at os m))) q) (sym e)
    by rest false e =
        ap (λ b. get (if b then records_after (after_whole all (sites_of os) o.site.member) o.site.op else after_whole all (sites_of os) m) q) e
        ∙ rest m q
        ∙ ap (λ b. get (with_changes (all m) (told_changes (if b then o ∷ told_at os m else told_at os m))) q) (sym e)

everywhere : (span : Option Span) (r s : Records) → ((q : List ℕ) → get r q ≡ get s q) → AgreeOn span r s
everywhere None r s h = tt
everywhere (Some span) r s h = λ q i. h q

-- where each member's part replays, the whole does
pub told_serially : (all : AllRecords) (told : List Told) → ((m : ℕ) → Replays (all m) (told_at told m)) → replies_of told ≡ run_whole all (sites_of told)
told_serially all [] h = refl
told_serially all (o ∷ os) h =
    let m = o.site.member in
    let here : o.reply ≡ reply_to (with_changes (all m) (told_changes (told_at os m))) o.site.op =
    (subst (λ b. Replays (all m) (if b then o ∷ told_at os m else told_at os m)) (own m) (h m)).0 in
    let agreed : reply_to (with_changes (all m) (told_changes (told_at os m))) o.site.op ≡ reply_to (after_whole all (sites_of os) m) o.site.op =
    replies_agree o.site.op _ _ (everywhere (span_read o.site.op) _ _ (λ q. sym (leaves_changes all os m q))) in
    reverse-append (o.reply ∷ []) (map (λ x. x.reply) os)
    ∙ ap (λ rs. rs ++ o.reply ∷ []) (told_serially all os (λ n. fewer n (h n)))
    ∙ ap (λ r. run_whole all (sites_of os) ++ r ∷ []) (here ∙ agreed)
    ∙ sym (ap (run_whole all) (sites_more o os) ∙ run_more all (sites_of os) (o.site ∷ []))
  where
    own : (m : ℕ) → (m == m) ≡ true
    own m = eq-eqb m m refl

    fewer : (n : ℕ) → Replays (all n) (told_at (o ∷ os) n) → Replays (all n) (told_at os n)
    fewer n p = by (o.site.member == n) p
      where
        by : (b : Bool) → Replays (all n) (if b then o ∷ told_at os n else told_at os n) → Replays (all n) (told_at os n)
        by true p = p.1
        by false p = p
