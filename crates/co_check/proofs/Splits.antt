-- The first transaction, and the first of its operations, that was not answered as in the serial run is but one.
use Rattle.std.proofs.Common.{◌≡◌, ◌≢◌, ℕ, List, [], ◌∷◌, ◌++◌, reverse, refl, sym, ap, ◌∙◌, subst}
use Rattle.co_base.specs.declared.reply.Reply.{Reply}
use Rattle.co_serial.specs.SerialRun.{AllRecords, after_site, after_whole, run_whole, reply_to}
use Rattle.co_check.specs.declared.client.Answered.{Answered}
use Rattle.co_check.specs.Account.{Committed}
use Rattle.co_check.specs.Runs.{sites, replies, IsUnlike}
use Rattle.co_check.specs.Serial.{IsSerial, IsSerialFrom, IsFirstToDiffer, IsFirstToDifferFrom, ReadsSeriallyFrom, no_records, serial_from}

-- two places of one list: the same one, or one stands before the other
pub data Split {A : Type 0} (xs : List A) (x : A) (us ys : List A) (y : A) (vs : List A) : Type 0 where
  Same : xs ≡ ys → x ≡ y → us ≡ vs → Split xs x us ys y vs
  Before : (ws : List A) → ys ≡ xs ++ x ∷ ws → us ≡ ws ++ y ∷ vs → Split xs x us ys y vs
  Behind : (ws : List A) → xs ≡ ys ++ y ∷ ws → vs ≡ ws ++ x ∷ us → Split xs x us ys y vs

head_of : {A : Type 0} (x y : A) (xs ys : List A) → x ∷ xs ≡ y ∷ ys → x ≡ y
head_of x y xs ys e = cc

tail_of : {A : Type 0} (x y : A) (xs ys : List A) → x ∷ xs ≡ y ∷ ys → xs ≡ ys
tail_of x y xs ys e = cc

further : {A : Type 0} (z w : A) (xs : List A) (x : A) (us ys : List A) (y : A) (vs : List A) → z ≡ w → Split xs x us ys y vs → Split (z ∷ xs) x us (w ∷ ys) y vs
further z w xs x us ys y vs e (Same a b c) = Same ((λ i. e i ∷ a i)) b c
further z w xs x us ys y vs e (Before ws a b) = Before ws ((λ i. sym e i ∷ a i)) b
further z w xs x us ys y vs e (Behind ws a b) = Behind ws ((λ i. e i ∷ a i)) b

pub split : {A : Type 0} (xs : List A) (x : A) (us ys : List A) (y : A) (vs : List A) → xs ++ x ∷ us ≡ ys ++ y ∷ vs → Split xs x us ys y vs
split [] x us [] y vs e = Same refl (head_of x y us vs e) (tail_of x y us vs e)
split [] x us (w ∷ ys) y vs e = Before ys (ap (λ z. z ∷ ys) (sym (head_of x w us (ys ++ y ∷ vs) e))) (tail_of x w us (ys ++ y ∷ vs) e)
split (z ∷ xs) x us [] y vs e = Behind xs (ap (λ w. w ∷ xs) (head_of z y (xs ++ x ∷ us) vs e)) (sym (tail_of z y (xs ++ x ∷ us) vs e))
split (z ∷ xs) x us (w ∷ ys) y vs e = further z w xs x us ys y vs (head_of z w (xs ++ x ∷ us) (ys ++ y ∷ vs) e) (split xs x us ys y vs (tail_of z w (xs ++ x ∷ us) (ys ++ y ∷ vs) e))

-- ---- operations

-- where all were answered as in the serial run, so was each
served_at : (all : AllRecords) (before : List Answered) (at : Answered) (behind : List Answered) → replies (before ++ at ∷ behind) ≡ run_whole all (sites (before ++ at ∷ behind)) →
    at.reply ≡ reply_to (after_whole all (sites before) at.site.member) at.site.op
served_at all [] at behind e = head_of at.reply (reply_to (all at.site.member) at.site.op) (replies behind) (run_whole (after_site all at.site) (sites behind)) e
served_at all (o ∷ before) at behind e =
    served_at (after_site all o.site) before at behind
    (tail_of o.reply (reply_to (all o.site.member) o.site.op) (replies (before ++ at ∷ behind)) (run_whole (after_site all o.site) (sites (before ++ at ∷ behind))) e)

-- such operations have none that differs
served_all : (all : AllRecords) (told : List Answered) (number : ℕ) (was serial : Reply) → replies told ≡ run_whole all (sites told) → IsUnlike all told number was serial → ⊥
served_all all told number was serial e u =
    u.unlike (u.is_serial ∙ sym (served_at all u.before u.at u.behind (subst (λ os. replies os ≡ run_whole all (sites os)) u.order e)) ∙ sym u.is_told)

-- those before the first that differs do not
not_before : (all : AllRecords) (before : List Answered) (front : List Answered) (at : Answered) (ws : List Answered) (serial was : Reply) → before ≡ front ++ at ∷ ws → replies before ≡ run_whole all (sites before) →
    serial ≡ reply_to (after_whole all (sites front) at.site.member) at.site.op → was ≡ at.reply → serial ≢ was → ⊥
not_before all before front at ws serial was is served is_serial is_told unlike =
    unlike (is_serial ∙ sym (served_at all front at ws (subst (λ os. replies os ≡ run_whole all (sites os)) is served)) ∙ sym is_told)

pub record AreSame (number : ℕ) (was serial : Reply) (other_number : ℕ) (other_was other_serial : Reply) : Type 0 where
  pub number_is : number ≡ other_number
  pub was_is : was ≡ other_was
  pub serial_is : serial ≡ other_serial

pub unlike_once : (all : AllRecords) (told : List Answered) (n : ℕ) (was serial : Reply) (k : ℕ) (other_was other_serial : Reply) → IsUnlike all told n was serial → IsUnlike all told k other_was other_serial → AreSame n was serial k other_was other_serial
unlike_once all told n was serial k other_was other_serial u v = by (split u.before u.at u.behind v.before v.at v.behind (sym u.order ∙ v.order))
  where
    by : Split u.before u.at u.behind v.before v.at v.behind → AreSame n was serial k other_was other_serial
    by (Same a b c) =
        record {
          number_is = u.is_number ∙ ap (λ (o : Answered). o.number) b ∙ sym v.is_number;
          was_is = u.is_told ∙ ap (λ (o : Answered). o.reply) b ∙ sym v.is_told;
          serial_is = u.is_serial ∙ (λ i. reply_to (after_whole all (sites (a i)) (b i).site.member) (b i).site.op) ∙ sym v.is_serial;
        }
    by (Before ws a b) = absurd (not_before all v.before u.before u.at ws serial was a v.same u.is_serial u.is_told u.unlike)
    by (Behind ws a b) = absurd (not_before all u.before v.before v.at ws other_serial other_was a u.same v.is_serial v.is_told v.unlike)

pub record AreSameOnes (t n : ℕ) (was serial : Reply) (u k : ℕ) (other_was other_serial : Reply) : Type 0 where
  pub txn_is : t ≡ u
  pub operation : AreSame n was serial k other_was other_serial

-- ---- transactions

module _ (start : AllRecords) where
  serial_at : (later : List Committed) (d : Committed) (earlier : List Committed) → IsSerialFrom start (later ++ d ∷ earlier) → ReadsSeriallyFrom start earlier d
  serial_at [] d earlier h = h.0
  serial_at (x ∷ later) d earlier h = serial_at later d earlier h.1

  -- where all read serially, none differs
  pub serial_or_not_from : (committed : List Committed) (t n : ℕ) (was serial : Reply) → IsSerialFrom start committed → IsFirstToDifferFrom start committed t n was serial → ⊥
  serial_or_not_from committed t n was serial h f =
      served_all (serial_from start f.earlier) (reverse f.d.told) n was serial (serial_at f.later f.d f.earlier (subst (IsSerialFrom start) f.order h)) f.differs

  -- one that differs does not stand among those that read serially
  not_earlier : (earlier : List Committed) (ws : List Committed) (d : Committed) (vs : List Committed) (n : ℕ) (was serial : Reply) → earlier ≡ ws ++ d ∷ vs → IsSerialFrom start earlier → IsUnlike (serial_from start vs) (reverse d.told) n was serial → ⊥
  not_earlier earlier ws d vs n was serial is h u = served_all (serial_from start vs) (reverse d.told) n was serial (serial_at ws d vs (subst (IsSerialFrom start) is h)) u

  pub differs_once_from : (committed : List Committed) (t n : ℕ) (was serial : Reply) (u k : ℕ) (other_was other_serial : Reply) → IsFirstToDifferFrom start committed t n was serial → IsFirstToDifferFrom start committed u k other_was other_serial →
      AreSameOnes t n was serial u k other_was other_serial
  differs_once_from committed t n was serial u k other_was other_serial f g = by (split f.later f.d f.earlier g.later g.d g.earlier (sym f.order ∙ g.order))
    where
      by : Split f.later f.d f.earlier g.later g.d g.earlier → AreSameOnes t n was serial u k other_was other_serial
      by (Same a b c) =
          record {
            txn_is = f.is_txn ∙ ap (λ (d : Committed). d.txn) b ∙ sym g.is_txn;
            operation = unlike_once (serial_from start g.earlier) (reverse g.d.told) n was serial k other_was other_serial
                (subst (λ (d : Committed). IsUnlike (serial_from start g.earlier) (reverse d.told) n was serial) b (subst (λ ds. IsUnlike (serial_from start ds) (reverse f.d.told) n was serial) c f.differs)) g.differs;
          }
      by (Before ws a b) = absurd (not_earlier f.earlier ws g.d g.earlier k other_was other_serial b f.serially g.differs)
      by (Behind ws a b) = absurd (not_earlier g.earlier ws f.d f.earlier n was serial b g.serially f.differs)

pub serial_or_not : (committed : List Committed) (t n : ℕ) (was serial : Reply) → IsSerial committed → IsFirstToDiffer committed t n was serial → ⊥
serial_or_not = serial_or_not_from no_records
