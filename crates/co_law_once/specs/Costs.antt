-- What a commit costs in messages where nothing is lost.
use Rattle.std.specs.Prelude.{ℕ, Bool, false, ◌&&◌, ◌==◌, ◌≡◌, List}
use Rattle.std.specs.List.{list_any}
use Rattle.co_message.specs.declared.event.Event.TheVariants as event
use Rattle.co_message.specs.declared.message.Message.{Message}
use Rattle.co_message.specs.declared.message.Message.TheVariants as message
use Rattle.co_plain.specs.declared.happening.Happening.{Happening}
use Rattle.co_plain.specs.declared.happening.Happening.TheVariants as happening
use Rattle.co_plain.specs.Numbers.{TxnNumber, MemberNumber}
use Rattle.co_law_once.specs.Once.{AtMostOnce}

-- a message of the transaction to the member or from it, by its kind
abbrev pub is_prepare : TxnNumber → MemberNumber → Message → Bool
is_prepare t m (message.Prepare u c k n) = (k == m) && (u == t)
is_prepare t m _ = false

abbrev pub is_vote : TxnNumber → MemberNumber → Message → Bool
is_vote t m (message.Vote u k c granted) = (k == m) && (u == t)
is_vote t m _ = false

abbrev pub is_decision : TxnNumber → MemberNumber → Message → Bool
is_decision t m (message.Decide u c k commit) = (k == m) && (u == t)
is_decision t m _ = false

abbrev pub is_acknowledgement : TxnNumber → MemberNumber → Message → Bool
is_acknowledgement t m (message.Ack u k c) = (k == m) && (u == t)
is_acknowledgement t m _ = false

abbrev pub is_question : TxnNumber → MemberNumber → Message → Bool
is_question t m (message.Ask u k c) = (k == m) && (u == t)
is_question t m _ = false

-- What is done where something was lost or is refused: a vote is tried again, a timer fires, a member asks, something is sent again or
-- handed, the client aborts, a no arrives or a question.
abbrev pub mends : TxnNumber → Happening → Bool
mends t (happening.Line (event.Vote u m)) = u == t
mends t (happening.Line (event.Timer u at)) = u == t
mends t (happening.Line (event.Ask u m)) = u == t
mends t (happening.Line (event.Resend u c)) = u == t
mends t (happening.Line (event.Abort u)) = u == t
mends t (happening.Line (event.Deliver (message.Vote u m c false))) = u == t
mends t (happening.Line (event.Deliver (message.Ask u m c))) = u == t
mends t (happening.Hand u m commit) = u == t
mends t _ = false

abbrev pub asks_commit : TxnNumber → Happening → Bool
asks_commit t (happening.Line (event.Commit u)) = u == t
asks_commit t _ = false

abbrev pub delivers_prepare : TxnNumber → MemberNumber → Happening → Bool
delivers_prepare t m (happening.Line (event.Deliver (message.Prepare u c k n))) = (k == m) && (u == t)
delivers_prepare t m _ = false

abbrev pub delivers_decision : TxnNumber → MemberNumber → Happening → Bool
delivers_decision t m (happening.Line (event.Deliver (message.Decide u c k commit))) = (k == m) && (u == t)
delivers_decision t m _ = false

-- Nothing of the transaction is lost and mended: its client asks for the commit once, and each member gets its prepare and its
-- decision once. Whatever happens to other transactions, and to nodes, is free.
pub record IsWithoutLoss (t : TxnNumber) (hs : List Happening) : Type 0 where
  pub unmended : list_any (mends t) hs ≡ false
  pub asked : AtMostOnce (asks_commit t) hs
  pub prepares : (m : ℕ) → AtMostOnce (delivers_prepare t m) hs
  pub decisions : (m : ℕ) → AtMostOnce (delivers_decision t m) hs

-- of each kind at most one message, and no question
pub record AreFour (t : TxnNumber) (m : MemberNumber) (notes : List Message) : Type 0 where
  pub prepares : AtMostOnce (is_prepare t m) notes
  pub votes : AtMostOnce (is_vote t m) notes
  pub decisions : AtMostOnce (is_decision t m) notes
  pub acknowledgements : AtMostOnce (is_acknowledgement t m) notes
  pub questions : list_any (is_question t m) notes ≡ false
