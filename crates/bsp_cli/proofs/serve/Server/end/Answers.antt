use Rattle.std.proofs.Common.{◌≡◌, [], true, refl, inr}
use Rattle.bsp_cli.proofs.ProgressLaws.{border_empty}
use Rattle.bsp_cli.proofs.serve.Server.end.Goals as goal

pub returns-then-at_border : goal.returns-then-at_border
returns-then-at_border c = λ left faults_old faults_new out. (border_empty c.args.self.now.decoder.bytes c.requires.drained (c.at_border.ensures.0 c.if-at_border.true), out)

pub returns-else-at_border : goal.returns-else-at_border
returns-else-at_border c = λ left faults_old faults_new out.
    inr (record {
      sound = c.requires.sound;
      kind = refl;
      place = c.count.ensures;
      inside = λ none.
          let border : c.at_border.result ≡ true = c.at_border.ensures.1 (record { bodies = []; frames = none }) in
          cc;
      out = out;
    })
