-- A verdict that was put is that of the text.
use Rattle.std.proofs.Common.{◌≡◌, inr, ℕ, List, Option, Result, Ok, Err, sym, subst}
use Rattle.co_check.specs.Written.{IsPutAs, IsWrittenBy}
use Rattle.co_check.specs.declared.fault.CheckFault.{CheckFault}
use Rattle.co_check.specs.declared.verdict.Verdict.{Verdict}
use Rattle.co_check.specs.declared.verdict.Verdict.TheVariants as verdict
use Rattle.co_check.specs.declared.writing.Finding.{Finding}
use Rattle.co_check.specs.declared.writing.Finding.TheVariants as finding
use Rattle.co_check.specs.declared.writing.VerdictFault.{VerdictFault}
use Rattle.co_check.specs.declared.writing.VerdictFault.TheVariants as fault

pub written : (says : Verdict → List ℕ) (Answers : List ℕ → Result Verdict CheckFault → Type 0) (text held : List ℕ) (told : Option (List ℕ)) (judged : Verdict) (o : Result Finding VerdictFault) → Answers text (Ok judged) → IsPutAs says judged held told o → IsWrittenBy says Answers text held told o
written says Answers text held told (verdict.Serial transactions map) (Ok finding.Serial) is put = (transactions, map, (is, put.1))
written says Answers text held told (verdict.Serial transactions map) (Ok (finding.NotSerial txn line)) is put = absurd (let e : finding.NotSerial txn line ≡ finding.Serial = put.0 in cc)
written says Answers text held told (verdict.Differs txn line was serial) (Ok finding.Serial) is put = absurd (let e : finding.Serial ≡ finding.NotSerial txn line = put.0 in cc)
written says Answers text held told (verdict.Differs txn line was serial) (Ok (finding.NotSerial u at)) is put =
    let e : finding.NotSerial u at ≡ finding.NotSerial txn line = put.0 in
    let same_txn : u ≡ txn = cc in
    let same_line : at ≡ line = cc in
    subst (λ n. IsWrittenBy says Answers text held told (Ok (finding.NotSerial n at))) (sym same_txn)
    (subst (λ n. IsWrittenBy says Answers text held told (Ok (finding.NotSerial txn n))) (sym same_line) (was, serial, (is, put.1)))
written says Answers text held told judged (Err fault.Write) is put = (judged, is, put)
written says Answers text held told judged (Err fault.Memory) is put = inr (judged, is, put)
written says Answers text held told judged (Err fault.Read) is put = absurd put
written says Answers text held told judged (Err (fault.Text line)) is put = absurd put
written says Answers text held told judged (Err (fault.Long line)) is put = absurd put
written says Answers text held told judged (Err fault.Many) is put = absurd put
