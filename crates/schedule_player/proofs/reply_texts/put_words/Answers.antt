use Rattle.std.proofs.Common.{refl}
use Rattle.schedule_player.proofs.Answered.{worded}
use Rattle.schedule_player.proofs.reply_texts.put_words.Goals as goal

pub returns-in-Journaled : goal.returns-in-Journaled
returns-in-Journaled c = worded c.put_journaled.result c.args.line.now.items c.put_journaled.new.line.items _ c.args.reply.now _ c.in-Journaled.is c.put_journaled.ensures refl

pub returns-in-Delivered : goal.returns-in-Delivered
returns-in-Delivered c = worded c.put_delivered.result c.args.line.now.items c.put_delivered.new.line.items _ c.args.reply.now _ c.in-Delivered.is c.put_delivered.ensures refl

pub returns-in-Started : goal.returns-in-Started
returns-in-Started c = worded c.put_started.result c.args.line.now.items c.put_started.new.line.items _ c.args.reply.now _ c.in-Started.is c.put_started.ensures refl

pub returns-in-Restarted : goal.returns-in-Restarted
returns-in-Restarted c = worded c.put_restarted.result c.args.line.now.items c.put_restarted.new.line.items _ c.args.reply.now _ c.in-Restarted.is c.put_restarted.ensures refl

pub returns-in-Refused : goal.returns-in-Refused
returns-in-Refused c = worded c.put_refused.result c.args.line.now.items c.put_refused.new.line.items _ c.args.reply.now _ c.in-Refused.is c.put_refused.ensures refl
