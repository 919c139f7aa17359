-- What a ledger keeps.
use Rattle.std.proofs.Common.{◌≡◌, ℕ, ◌+◌, true, false, List, [], ◌∷◌, ◌++◌, length, Option, None, Some, is_some, refl, sym, ap, ◌∙◌, subst, arith}
use Rattle.co_base.specs.declared.node.Node.{Node}
use Rattle.co_base.specs.declared.reply.Reply.{Reply}
use Rattle.co_serial.specs.Family.{family_of}
use Rattle.co_serial.specs.Records.{Records}
use Rattle.co_serial.specs.SerialRun.{AllRecords}
use Rattle.co_serial.specs.declared.member_row.MemberRow.{MemberRow}
use Rattle.co_state.specs.Table.{look, put, without}
use Rattle.co_state.proofs.Tables.{put-without}
use Rattle.co_check.specs.declared.client.Answered.{Answered}
use Rattle.co_check.specs.declared.client.Client.{Client}
use Rattle.co_check.specs.declared.ledger.Ledger.{Ledger}
use Rattle.co_check.specs.declared.place.Place.{Place}
use Rattle.co_check.specs.Account.{Account, Committed, no_account, client_in, client_of, with_client, begun, begun_by, told, told_to, commits_at, committed_at, is_by}
use Rattle.co_check.specs.Kept.{Keeps, IsChange, IsJudged, IsKept, kept_more, IsNext, Follows}
use Rattle.co_check.specs.Serial.{IsFirstToDifferFrom}
use Rattle.co_check.specs.Shape.{Read, at_place}
use Rattle.co_check.specs.Starts.{laid_in}
use Rattle.co_check.specs.declared.ledger.Difference.{Difference}

-- a line that changes the account goes on at its place
pub goes_on : (start : AllRecords) (o : Option Account) (place : Place) (after : Ledger) → IsChange start o true after → IsNext start (at_place place o) (Some place) after
goes_on start None place after is = absurd (let z : true ≡ false = is in cc)
goes_on start (Some a) place after is = (refl, is.1)

-- and one that may not breaks the shape
pub breaks : (start : AllRecords) (o : Option Account) (place : Place) (after : Ledger) → IsChange start o false after → IsNext start (at_place place o) None after
breaks start None place after is = tt
breaks start (Some a) place after is = absurd (let z : false ≡ true = is.0 in cc)

-- one more transaction is kept
kept_on : (o : Option (List Committed)) (committed : List Committed) (d : Committed) → IsKept o committed → IsKept (kept_more o d) (d ∷ committed)
kept_on None committed d h = tt
kept_on (Some kept) committed d h = ap (λ ds. d ∷ ds) h

-- what is known of one transaction is another
changed : (start : AllRecords) (l mid new : Ledger) (a : Account) (t : ℕ) (client other : Client) → Keeps start l a → mid ≡ record l { clients = without l.clients t } →
    new ≡ record mid { clients = put mid.clients t client } → client ≡ other → Keeps start new (with_client a t other)
changed start l mid new a t client other k m n e =
    subst (λ z. Keeps start z (with_client a t other)) (sym (n ∙ ap {A = Ledger} (λ z. record z { clients = put z.clients t client }) m))
    (record { clients = put-without l.clients t client ∙ (λ i. put (k.clients i) t (e i)); count = k.count; judged = k.judged; kept = k.kept })

known : (start : AllRecords) (l : Ledger) (a : Account) (t : ℕ) → Keeps start l a → client_in (look l.clients t) ≡ client_of a t
known start l a t k = ap (λ m. client_in (look m t)) k.clients

pub begins_kept : (start : AllRecords) (l mid new : Ledger) (a : Account) (t : ℕ) (by : Node) (client after : Client) → Keeps start l a → is_some (client_in (look l.clients t)).by ≡ false →
    client ≡ client_in (look l.clients t) → after ≡ record client { by = Some by } → mid ≡ record l { clients = without l.clients t } →
    new ≡ record mid { clients = put mid.clients t after } → IsChange start (begun a t by) true new
begins_kept start l mid new a t by client after k none c f m n = of (client_of a t).by refl
  where
    same : client ≡ client_of a t
    same = c ∙ known start l a t k

    of : (o : Option Node) → (client_of a t).by ≡ o → IsChange start (begun_by a t by (client_of a t) o) true new
    of None e = (refl, changed start l mid new a t after (record (client_of a t) { by = Some by }) k m n (f ∙ ap {A = Client} (λ z. record z { by = Some by }) same))
    of (Some other) e = absurd (let z : true ≡ false = sym (ap is_some e) ∙ sym (ap {A = Client} (λ z. is_some z.by) (known start l a t k)) ∙ none in cc)

pub tells_kept : (start : AllRecords) (l mid new : Ledger) (a : Account) (t : ℕ) (o : Answered) (client after : Client) → Keeps start l a → (client_in (look l.clients t)).decided ≡ false →
    client ≡ client_in (look l.clients t) → after ≡ record client { told = o ∷ client.told } → mid ≡ record l { clients = without l.clients t } →
    new ≡ record mid { clients = put mid.clients t after } → Keeps start new (told a t o)
tells_kept start l mid new a t o client after k undecided c f m n =
    subst (λ b. Keeps start new (told_to a t o (client_of a t) b)) (sym (ap {A = Client} (λ z. z.decided) (sym (known start l a t k)) ∙ undecided))
    (changed start l mid new a t after (record (client_of a t) { told = o ∷ (client_of a t).told }) k m n (f ∙ ap {A = Client} (λ z. record z { told = o ∷ z.told }) (c ∙ known start l a t k)))

pub commits_kept : (start : AllRecords) (l mid held ran new : Ledger) (a : Account) (t : ℕ) (at : Node) (client after : Client) → Keeps start l a → is_by (client_in (look l.clients t)).by at ≡ true →
    (client_in (look l.clients t)).decided ≡ false → client ≡ client_in (look l.clients t) → mid ≡ record l { clients = without l.clients t } →
    held ≡ record mid { kept = kept_more mid.kept (record { txn = t; told = client.told }) } →
    ((committed : List Committed) → IsJudged start held.differs held.map committed → IsJudged start ran.differs ran.map (record { txn = t; told = client.told } ∷ committed)) →
    ran.clients ≡ held.clients → ran.transactions ≡ held.transactions → ran.kept ≡ held.kept → after ≡ record { by = client.by; told = []; decided = true } →
    new.clients ≡ put ran.clients t after → new.transactions ≡ ran.transactions + 1 → new.map ≡ ran.map → new.differs ≡ ran.differs → new.kept ≡ ran.kept →
    IsChange start (commits_at a t (client_of a t) (is_by (client_of a t).by at)) true new
commits_kept start l mid held ran new a t at client after k decides undecided c m hm judged rc rt rk f nc nt nm nd nk =
    subst (λ b. IsChange start (commits_at a t (client_of a t) b) true new) (sym (ap {A = Client} (λ z. is_by z.by at) (sym same) ∙ decides))
    (subst (λ b. IsChange start (committed_at a t (client_of a t) b) true new) (sym (ap {A = Client} (λ z. z.decided) (sym same) ∙ undecided)) (refl, kept))
  where
    same : client_in (look l.clients t) ≡ client_of a t
    same = known start l a t k

    is : client ≡ client_of a t
    is = c ∙ same

    newest : Committed
    newest = record { txn = t; told = (client_of a t).told }

    kept : Keeps start new (record { clients = put a.clients t (record { by = (client_of a t).by; told = []; decided = true }); committed = newest ∷ a.committed })
    kept =
        record {
          clients =
              nc ∙ ap (λ z. put z t after) (rc ∙ ap {A = Ledger} (λ z. z.clients) hm ∙ ap {A = Ledger} (λ z. z.clients) m) ∙ put-without l.clients t after
              ∙ (λ i. put (k.clients i) t ((f ∙ ap {A = Client} (λ z. record { by = z.by; told = []; decided = true }) is) i));
          count = let e : ran.transactions ≡ length a.committed = rt ∙ ap {A = Ledger} (λ z. z.transactions) hm ∙ ap {A = Ledger} (λ z. z.transactions) m ∙ k.count in omega (arith, nt, e);
          judged =
              subst (λ o. IsJudged start o new.map (newest ∷ a.committed)) (sym nd)
              (subst (λ z. IsJudged start ran.differs z (newest ∷ a.committed)) (sym nm)
              (subst (λ z. IsJudged start ran.differs ran.map (record { txn = t; told = z } ∷ a.committed)) (ap {A = Client} (λ z. z.told) is)
              (judged a.committed (subst {A = Ledger} (λ z. IsJudged start z.differs z.map a.committed) (sym hm) (subst {A = Ledger} (λ z. IsJudged start z.differs z.map a.committed) (sym m) k.judged)))));
          kept =
              subst (λ o. IsKept o (newest ∷ a.committed)) (sym (nk ∙ rk ∙ ap {A = Ledger} (λ z. z.kept) hm ∙ ap {A = Ledger} (λ z. kept_more z.kept (record { txn = t; told = client.told })) m ∙ ap {A = Client} (λ z. kept_more l.kept (record { txn = t; told = z.told })) is))
              (kept_on l.kept a.committed newest k.kept);
        }

-- ---- lines

pub taken : (start : AllRecords) (o : Option Read) (place : Place) (l : Ledger) → IsNext start o (Some place) l → (x : Read) × (o ≡ Some x) × Follows start (record { place = place; ledger = l }) x
taken start None place l n = absurd n
taken start (Some x) place l n = (x, refl, record { place = n.0; account = n.1 })

pub broken : (start : AllRecords) (o : Option Read) (l : Ledger) → IsNext start o None l → o ≡ None
broken start None l n = refl
broken start (Some x) l n = absurd n

-- ---- records

-- where nothing is decided, nothing differs
nothing_differs : (start : AllRecords) (t n : ℕ) (was serial : Reply) → IsFirstToDifferFrom start [] t n was serial → ⊥
nothing_differs start t n was serial h = of h.later h.d h.earlier h.order
  where
    of : (later : List Committed) (d : Committed) (earlier : List Committed) → [] ≡ later ++ d ∷ earlier → ⊥
    of [] d earlier e = let z : [] ≡ d ∷ earlier = e in cc
    of (x ∷ later) d earlier e = let z : [] ≡ x ∷ (later ++ d ∷ earlier) = e in cc

-- one more record is laid in
laid_more : (start : AllRecords) (o : Option Difference) (map left : List Records) (row : MemberRow) → IsJudged start o map [] → family_of left ≡ laid_in (family_of map) row → IsJudged (laid_in start row) o left []
laid_more start None map left row h e = (tt, e ∙ ap (λ all. laid_in all row) h.1)
laid_more start (Some d) map left row h e = absurd (nothing_differs start d.txn d.at.number d.at.told d.at.serial h)

pub laid_kept : (start : AllRecords) (l new : Ledger) (row : MemberRow) → Keeps start l no_account → new.clients ≡ l.clients → new.transactions ≡ l.transactions → new.differs ≡ l.differs → new.kept ≡ l.kept →
    family_of new.map ≡ laid_in (family_of l.map) row → Keeps (laid_in start row) new no_account
laid_kept start l new row k nc nt nd nk nm =
    record {
      clients = nc ∙ k.clients;
      count = nt ∙ k.count;
      judged = subst (λ o. IsJudged (laid_in start row) o new.map []) (sym nd) (laid_more start l.differs l.map new.map row k.judged nm);
      kept = subst (λ o. IsKept o []) (sym nk) k.kept;
    }
