use Rattle.dccp_c.proofs.Served.{listens_soundly}
use Rattle.dccp_c.proofs.founding.listening_at.Goals as goal

pub returns-clause-sound : goal.returns-clause-sound
returns-clause-sound c =
    listens_soundly c.args.settings.now c.args.given.now c.args.most c.args.config.now c.serves_at.result c.serves_at.ensures c.requires.distinct
    c.requires.least c.requires.most
