-- The latest sending of a message.
use Rattle.std.proofs.Common.{◌≡◌, ℕ, ◌+◌, Bool, true, false, if◌then◌else◌, List, [], ◌∷◌, ◌++◌, length, Option, None, Some, refl, sym, ap, ◌∙◌, subst, arith, append_assoc, append-nil}
use Rattle.std.specs.Prelude.{All}
use Rattle.std.proofs.lemmas.List.Elements.{All-nil, All-cons, All-append}
use Rattle.std.proofs.lemmas.List.{length-append}
use Rattle.co_message.specs.declared.item.Item.{Item}
use Rattle.co_message.specs.declared.message.Message.{Message}
use Rattle.co_picture.specs.Entry.{sends, latest, latest_from}
use Rattle.co_picture.specs.Laws.{IsUnsent, IsSentAt, IsLatest}

unsent-append : (xs : List Item) (it : Item) (message : Message) → IsUnsent xs message → sends message it ≡ false → IsUnsent (xs ++ it ∷ []) message
unsent-append xs it message all other =
    All-append (λ i. sends message i ≡ false) xs (it ∷ []) all (All-cons (λ i. sends message i ≡ false) it [] other (All-nil (λ i. sends message i ≡ false)))

later : (before : List Item) (it : Item) (message : Message) (found : Option ℕ) → IsLatest before message found → sends message it ≡ false → IsLatest (before ++ it ∷ []) message found
later before it message None known other = unsent-append before it message known other
later before it message (Some row) known other =
    record {
      front = known.front;
      sending = known.sending;
      behind = known.behind ++ it ∷ [];
      order = ap (λ l. l ++ it ∷ []) known.order ∙ append_assoc known.front (known.sending ∷ known.behind) (it ∷ []);
      place = known.place;
      sent = known.sent;
      none_behind = unsent-append known.behind it message known.none_behind other;
    }

here : (before : List Item) (it : Item) (message : Message) → sends message it ≡ true → IsSentAt (before ++ it ∷ []) message (length before)
here before it message sent_here =
    record {
      front = before;
      sending = it;
      behind = [];
      order = refl;
      place = refl;
      sent = sent_here;
      none_behind = All-nil (λ i. sends message i ≡ false);
    }

-- one more item, where it sends the message or not
step : (before : List Item) (it : Item) (message : Message) (found : Option ℕ) (sent : Bool) → sends message it ≡ sent → IsLatest before message found →
    IsLatest (before ++ it ∷ []) message (if sent then Some (length before) else found)
step before it message found true e known = here before it message e
step before it message found false e known = later before it message found known e

from : (before items : List Item) (message : Message) (found : Option ℕ) → IsLatest before message found → IsLatest (before ++ items) message (latest_from (length before) found items message)
from before [] message found known = subst (λ l. IsLatest l message found) (sym (append-nil before)) known
from before (it ∷ items) message found known =
    let one = step before it message found (sends message it) refl known in
    let rest = from (before ++ it ∷ []) items message (if sends message it then Some (length before) else found) one in
    subst (λ l. IsLatest l message (latest_from (length before + 1) (if sends message it then Some (length before) else found) items message)) (append_assoc before (it ∷ []) items)
    (subst (λ n. IsLatest ((before ++ it ∷ []) ++ items) message (latest_from n (if sends message it then Some (length before) else found) items message)) (length-append before (it ∷ [])) rest)

pub is_latest : (before : List Item) (message : Message) → IsLatest before message (latest before message)
is_latest before message = from [] before message None (All-nil (λ i. sends message i ≡ false))
