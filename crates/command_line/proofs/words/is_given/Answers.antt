use Rattle.std.proofs.Common.{refl}
use Rattle.clap.specs.Words.{found_of, one_text}
use Rattle.command_line.proofs.WordLaws.{flag_read, no_flag}
use Rattle.command_line.proofs.words.is_given.Goals as goal

pub returns : goal.returns
returns c =
    let found = found_of c.args.matches.now in
    record {
      given = flag_read _ found c.args.flag.now (one_text found c.args.flag.now) c.get_one.result refl c.get_one.ensures.none c.get_one.ensures.value;
      not_given = λ is. no_flag _ found c.args.flag.now c.get_one.result is c.get_one.ensures.value;
    }
