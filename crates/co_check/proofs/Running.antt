-- The serial run of one transaction, one more operation at a time.
use Rattle.std.proofs.Common.{◌≡◌, ◌≢◌, List, [], ◌∷◌, ◌++◌, refl, sym, ap, ◌∙◌}
use Rattle.std.proofs.lemmas.List.{map-append}
use Rattle.co_base.specs.declared.reply.Reply.{Reply}
use Rattle.co_serial.specs.SerialRun.{AllRecords, after_site, after_whole, run_whole, reply_to}
use Rattle.co_serial.specs.declared.site.Site.{Site}
use Rattle.co_check.specs.declared.client.Answered.{Answered}
use Rattle.co_check.specs.Runs.{sites, AreServed, IsUnlike}

after-one : (all : AllRecords) (ss : List Site) (s : Site) → after_whole all (ss ++ s ∷ []) ≡ after_site (after_whole all ss) s
after-one all [] s = refl
after-one all (x ∷ ss) s = after-one (after_site all x) ss s

run-one : (all : AllRecords) (ss : List Site) (s : Site) → run_whole all (ss ++ s ∷ []) ≡ run_whole all ss ++ reply_to (after_whole all ss s.member) s.op ∷ []
run-one all [] s = refl
run-one all (x ∷ ss) s = ap (λ rs. reply_to (all x.member) x.op ∷ rs) (run-one (after_site all x) ss s)

-- so many operations were answered as in the serial run, and these are left
pub record IsSoFar (all left : AllRecords) (whole told rest : List Answered) : Type 0 where
  pub served : AreServed all left told
  pub order : told ++ rest ≡ whole

append_one : {A : Type 0} (xs : List A) (x : A) (ys : List A) → (xs ++ x ∷ []) ++ ys ≡ xs ++ x ∷ ys
append_one [] x ys = refl
append_one (z ∷ xs) x ys = ap (λ zs. z ∷ zs) (append_one xs x ys)

-- one more operation is answered as in the serial run
served_more : (all left after : AllRecords) (told : List Answered) (o : Answered) (serial : Reply) → AreServed all left told → serial ≡ reply_to (left o.site.member) o.site.op →
    after ≡ after_site left o.site → serial ≡ o.reply → AreServed all after (told ++ o ∷ [])
served_more all left after told o serial s r a e =
    record {
      same =
          map-append (λ x. x.reply) told (o ∷ [])
          ∙ (λ i. s.same i ++ (sym e ∙ r ∙ ap (λ z. reply_to (z o.site.member) o.site.op) s.after) i ∷ [])
          ∙ sym (run-one all (sites told) o.site)
          ∙ ap (run_whole all) (sym (map-append (λ x. x.site) told (o ∷ [])));
      after =
          a ∙ ap (λ z. after_site z o.site) s.after ∙ sym (after-one all (sites told) o.site)
          ∙ ap (after_whole all) (sym (map-append (λ x. x.site) told (o ∷ [])));
    }

-- one more is not
unlike_here : (all left : AllRecords) (whole told rest : List Answered) (o : Answered) (serial : Reply) → AreServed all left told → whole ≡ told ++ o ∷ rest →
    serial ≡ reply_to (left o.site.member) o.site.op → serial ≢ o.reply → IsUnlike all whole o.number o.reply serial
unlike_here all left whole told rest o serial s w r n =
    record {
      before = told;
      at = o;
      behind = rest;
      order = w;
      same = s.same;
      is_number = refl;
      is_told = refl;
      is_serial = r ∙ ap (λ z. reply_to (z o.site.member) o.site.op) s.after;
      unlike = n;
    }

pub turn : (all left after : AllRecords) (whole told rest less : List Answered) (o : Answered) (serial : Reply) → IsSoFar all left whole told rest → rest ≡ o ∷ less →
    serial ≡ reply_to (left o.site.member) o.site.op → after ≡ after_site left o.site → serial ≡ o.reply → IsSoFar all after whole (told ++ o ∷ []) less
turn all left after whole told rest less o serial s e r a same =
    record {
      served = served_more all left after told o serial s.served r a same;
      order = append_one told o less ∙ ap (λ z. told ++ z) (sym e) ∙ s.order;
    }

pub stops : (all left : AllRecords) (whole told rest less : List Answered) (o : Answered) (serial : Reply) → IsSoFar all left whole told rest → rest ≡ o ∷ less →
    serial ≡ reply_to (left o.site.member) o.site.op → serial ≢ o.reply → IsUnlike all whole o.number o.reply serial
stops all left whole told rest less o serial s e r n =
    unlike_here all left whole told less o serial s.served (sym (ap (λ z. told ++ z) (sym e) ∙ s.order)) r n

append_none : {A : Type 0} (xs : List A) → xs ++ [] ≡ xs
append_none [] = refl
append_none (x ∷ xs) = ap (λ z. x ∷ z) (append_none xs)
