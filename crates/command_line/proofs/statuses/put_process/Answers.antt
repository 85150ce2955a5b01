use Rattle.std.proofs.Common.{◌∙◌, ◌++◌, ℕ, List, ap, ap₂, sym, codes, decimal}
use Rattle.process_player.specs.declared.faults.ProcessFault.{ProcessFault}
use Rattle.command_line.specs.Endings.{log_code_text, process_message}
use Rattle.command_line.proofs.PartLaws.{put_in_turn}
use Rattle.command_line.proofs.statuses.put_process.Goals as goal

pub returns-in-Log-clause-put : goal.returns-in-Log-clause-put
returns-in-Log-clause-put c =
    let word = ap₂ (λ (a b : List ℕ). a ++ b) c.put-in-Log.ensures c.log_word.ensures.word in
    let line = ap (λ (x : List ℕ). x ++ codes " line ") (c.put-in-Log-2.ensures ∙ word) in
    let number = ap (λ (x : List ℕ). x ++ decimal c.in-Log.at) (c.put-in-Log-3.ensures ∙ line) in
    let all = c.put_long_number.ensures.put ∙ (number ∙ put_in_turn c.args.line.now (codes "refused log: ") (log_code_text c.in-Log.code) (codes " line ") (decimal c.in-Log.at)) in
    all ∙ sym (ap (λ (f : ProcessFault). c.args.line.now ++ process_message f) c.in-Log.is)

pub returns-in-OtherLog-clause-put : goal.returns-in-OtherLog-clause-put
returns-in-OtherLog-clause-put c = c.put-in-OtherLog.ensures ∙ sym (ap (λ (f : ProcessFault). c.args.line.now ++ process_message f) c.in-OtherLog.is)

pub returns-in-NoJournal-clause-put : goal.returns-in-NoJournal-clause-put
returns-in-NoJournal-clause-put c = c.put-in-NoJournal.ensures ∙ sym (ap (λ (f : ProcessFault). c.args.line.now ++ process_message f) c.in-NoJournal.is)
