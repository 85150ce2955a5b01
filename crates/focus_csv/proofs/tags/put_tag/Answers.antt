use Rattle.focus_csv.proofs.tags.put_tag.Goals as goal

pub returns-then-is_plain : goal.returns-then-is_plain
returns-then-is_plain c = c.in_ok-put_plain_tag.ensures c.args.front.now c.requires.begin
