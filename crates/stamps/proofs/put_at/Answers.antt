-- Where there is an entry, its stamp is put.
use Rattle.stamps.proofs.put_at.Goals as goal

pub put_stamp-requires : goal.put_stamp-requires
put_stamp-requires c = (c.requires.0, c.requires.1 c.in-Some.e c.in-Some.is)
