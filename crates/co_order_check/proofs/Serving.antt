-- The loops that run an order.
use Rattle.std.proofs.Common.{◌≡◌, ℕ, zero, suc, ◌+◌, ◌<◌, List, [], ◌∷◌, ◌++◌, map, reverse, length, take, drop, get_or, refl, sym, ap, ◌∙◌, subst, arith, take-append-drop}
use Rattle.std.proofs.lemmas.List.{take_more, map-append, reverse-append}
use Rattle.co_base.specs.declared.reply.Reply.{Reply}
use Rattle.co_serial.specs.SerialRun.{AllRecords, after_site, after_whole, run_whole, reply_to}
use Rattle.co_check.proofs.Running.{IsSoFar, turn}
use Rattle.co_check.proofs.Serially.{serial-more}
use Rattle.co_check.specs.Runs.{sites, replies, AreServed}
use Rattle.co_check.specs.Serial.{IsSerial, serial_after}
use Rattle.co_check.specs.declared.client.Answered.{Answered}
use Rattle.co_check.specs.declared.client.Committed.{Committed}
use Rattle.co_order_check.specs.Order.{no_one, at, in_order}
use Rattle.co_order_check.proofs.Looping.{drop_more}

-- one more operation is answered as in the serial run
pub served_on : (all left after : AllRecords) (told : List Answered) (i : ℕ) (o : Answered) (serial : Reply) → AreServed all left (take i told) → i < length told → o ≡ get_or told i o →
    serial ≡ reply_to (left o.site.member) o.site.op → after ≡ after_site left o.site → serial ≡ o.reply → AreServed all after (take (i + 1) told)
served_on all left after told i o serial s h e r a same =
    let so_far : IsSoFar all left told (take i told) (drop i told) = record { served = s; order = take-append-drop i told } in
    let next = turn all left after told (take i told) (drop i told) (drop (i + 1) told) o serial so_far (drop_more told i o h e) r a same in
    subst (AreServed all after) (sym (take_more told i o h ∙ ap (λ z. take i told ++ z ∷ []) (sym e))) next.served

pub any_default : {A : Type 0} (xs : List A) (i : ℕ) (d e : A) → i < length xs → get_or xs i d ≡ get_or xs i e
any_default [] i d e h = absurd (omega arith)
any_default (x ∷ xs) zero d e h = refl
any_default (x ∷ xs) (suc i) d e h = any_default xs i d e (omega arith)

order_more : (ds : List Committed) (order : List ℕ) (i : ℕ) (d : Committed) → i < length order → get_or order i 0 < length ds → d ≡ get_or ds (get_or order i 0) d →
    reverse (in_order ds (take (i + 1) order)) ≡ d ∷ reverse (in_order ds (take i order))
order_more ds order i d h k e =
    ap (λ z. reverse (in_order ds z)) (take_more order i 0 h)
    ∙ ap reverse (map-append (at ds) (take i order) (get_or order i 0 ∷ []))
    ∙ reverse-append (in_order ds (take i order)) (at ds (get_or order i 0) ∷ [])
    ∙ ap (λ z. z ∷ reverse (in_order ds (take i order))) (any_default ds (get_or order i 0) no_one d k ∙ sym e)

-- one more transaction runs serially
pub runs_on : (ds : List Committed) (order : List ℕ) (i : ℕ) (d : Committed) (told : List Answered) (old new : AllRecords) → i < length order → get_or order i 0 < length ds →
    d ≡ get_or ds (get_or order i 0) d → told ≡ reverse d.told → IsSerial (reverse (in_order ds (take i order))) → old ≡ serial_after (reverse (in_order ds (take i order))) →
    replies told ≡ run_whole old (sites told) → new ≡ after_whole old (sites told) →
    IsSerial (reverse (in_order ds (take (i + 1) order))) × (new ≡ serial_after (reverse (in_order ds (take (i + 1) order))))
runs_on ds order i d told old new h k e t serial left same after =
    let earlier = reverse (in_order ds (take i order)) in
    let is = order_more ds order i d h k e in
    let answered : replies (reverse d.told) ≡ run_whole (serial_after earlier) (sites (reverse d.told)) =
    subst (λ z. replies z ≡ run_whole (serial_after earlier) (sites z)) t (subst (λ a. replies told ≡ run_whole a (sites told)) left same) in
    let onto : IsSerial (d ∷ earlier) = (answered, serial) in (
      subst IsSerial (sym is) onto,
      after ∙ (λ j. after_whole (left j) (sites (t j))) ∙ sym (serial-more d earlier) ∙ ap serial_after (sym is),
    )
