-- The words of each event fit the places of events.
use Rattle.std.proofs.Common.{ℕ, ◌≤◌, refl, arith}
use Rattle.co_message.specs.declared.message.Message.{Message}
use Rattle.co_message.specs.declared.message.Message.TheVariants as message
use Rattle.co_message.specs.declared.event.Event.{Event}
use Rattle.co_message.specs.declared.event.Event.TheVariants as event
use Rattle.co_schedule.specs.Spelling.{message_words, event_words}
use Rattle.co_schedule.specs.Grammar.{txn, count, call, message_places, event_places}
use Rattle.co_schedule.specs.View.{IsTxn, IsCount, IsWithin, IsMessageFor, IsEventFor}
use Rattle.std.specs.Prelude.{decimal}
use Rattle.co_schedule.proofs.Fitting.{Taken, Fits, number_taken, member_taken, coord_taken, node_taken, key_taken, key_from_taken, value_taken, leaves_taken, vote_taken, decision_taken}

pub txn_taken : (t : ℕ) → IsTxn t → Taken txn (decimal t)
txn_taken t it = number_taken 0 4294967295 t (omega arith) it (omega arith)

pub count_taken : (n : ℕ) → IsCount n → Taken count (decimal n)
count_taken n it = number_taken 0 65535 n (omega arith) it (omega arith)

call_taken : (n : ℕ) → IsWithin 1 4 n → Taken call (decimal n)
call_taken n it = number_taken 1 4 n it.0 it.1 (omega arith)

pub message_fits : (m c : ℕ) (message : Message) → m ≤ 255 → c ≤ 255 → IsMessageFor m c message → Fits (message_places m c) (message_words message)
message_fits m c (message.Prepare t k n held) p q it = (record { wanted = refl; whole = refl }, (txn_taken t it.0, (coord_taken c k it.1 q, (member_taken m n it.2 p, (count_taken held it.3, tt)))))
message_fits m c (message.Vote t n k w) p q it = (record { wanted = refl; whole = refl }, (txn_taken t it.0, (member_taken m n it.1 p, (coord_taken c k it.2 q, (vote_taken w, tt)))))
message_fits m c (message.Decide t k n commit) p q it = (record { wanted = refl; whole = refl }, (txn_taken t it.0, (coord_taken c k it.1 q, (member_taken m n it.2 p, (decision_taken commit, tt)))))
message_fits m c (message.Ask t n k) p q it = (record { wanted = refl; whole = refl }, (txn_taken t it.0, (member_taken m n it.1 p, (coord_taken c k it.2 q, tt))))
message_fits m c (message.Ack t n k) p q it = (record { wanted = refl; whole = refl }, (txn_taken t it.0, (member_taken m n it.1 p, (coord_taken c k it.2 q, tt))))

pub event_fits : (m c : ℕ) (e : Event) → m ≤ 255 → c ≤ 255 → IsEventFor m c e → Fits (event_places m c) (event_words e)
event_fits m c (event.Begin t k) p q it = (record { wanted = refl; whole = refl }, (txn_taken t it.0, (coord_taken c k it.1 q, tt)))
event_fits m c (event.Local t n) p q it = (record { wanted = refl; whole = refl }, (txn_taken t it.0, (member_taken m n it.1 p, tt)))
event_fits m c (event.Read t n key) p q it = (record { wanted = refl; whole = refl }, (txn_taken t it.0, (member_taken m n it.1 p, (key_taken key it.2, tt))))
event_fits m c (event.Write t n key value) p q it = (record { wanted = refl; whole = refl }, (txn_taken t it.0, (member_taken m n it.1 p, (key_taken key it.2, (value_taken value it.3, tt)))))
event_fits m c (event.Erase t n key) p q it = (record { wanted = refl; whole = refl }, (txn_taken t it.0, (member_taken m n it.1 p, (key_taken key it.2, tt))))
event_fits m c (event.Scan t n range) p q it = (record { wanted = refl; whole = refl }, (txn_taken t it.0, (member_taken m n it.1 p, (key_taken range.lo it.2, (key_from_taken range.lo range.hi it.3 it.4, tt)))))
event_fits m c (event.Commit t) p q it = (record { wanted = refl; whole = refl }, (txn_taken t it, tt))
event_fits m c (event.Abort t) p q it = (record { wanted = refl; whole = refl }, (txn_taken t it, tt))
event_fits m c (event.Deliver message) p q it = (record { wanted = refl; whole = refl }, message_fits m c message p q it)
event_fits m c (event.Vote t n) p q it = (record { wanted = refl; whole = refl }, (txn_taken t it.0, (member_taken m n it.1 p, tt)))
event_fits m c (event.Timer t n) p q it = (record { wanted = refl; whole = refl }, (txn_taken t it.0, (node_taken m c n it.1 p q, tt)))
event_fits m c (event.Ask t n) p q it = (record { wanted = refl; whole = refl }, (txn_taken t it.0, (member_taken m n it.1 p, tt)))
event_fits m c (event.Resend t k) p q it = (record { wanted = refl; whole = refl }, (txn_taken t it.0, (coord_taken c k it.1 q, tt)))
event_fits m c (event.Crash n) p q it = (record { wanted = refl; whole = refl }, (node_taken m c n it p q, tt))
event_fits m c (event.Restart n) p q it = (record { wanted = refl; whole = refl }, (node_taken m c n it p q, tt))
event_fits m c (event.Arm n stop left) p q it = (record { wanted = refl; whole = refl }, (node_taken m c n it.0 p q, (call_taken stop it.1, (leaves_taken left it.2, tt))))
event_fits m c (event.Checkpoint n) p q it = (record { wanted = refl; whole = refl }, (node_taken m c n it p q, tt))
