-- What a log and a plan stand for.
use Rattle.std.specs.Prelude.{map}
use Rattle.std.specs.Arc.{arc_value}
use Rattle.node_book.specs.declared.logs.Log.{Log as KeptLog}
use Rattle.node_book.specs.declared.plans.Plan.{Plan as KeptPlan}
use Rattle.node_book.specs.Books.{Log, Plan}

abbrev pub log_of : KeptLog → Log
log_of l = record { who = l.who; told = l.done.items }

abbrev pub plan_of : KeptPlan → Plan
plan_of p = record {
  voters = p.voters;
  observers = p.observers;
  sheet = arc_value p.sheet;
  issuer = arc_value p.issuer;
  journals = map (λ texts. map (λ text. text.items) texts.items) p.journals.items;
  periods = p.periods;
  turns = p.turns;
}
