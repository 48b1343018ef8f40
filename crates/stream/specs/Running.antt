-- Rules: what is kept of a running state: the pictures and the table lent stand for it.
use Rattle.session.specs.Held.{Holds}
use Rattle.stream.specs.declared.Running.{Running}

abbrev pub Stands : Running → Type 0
Stands r = Holds r.state r.target r.canvas r.table
