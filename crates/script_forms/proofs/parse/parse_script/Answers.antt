use Rattle.script_forms.proofs.Scripts.{found, fit, only, bad_line, least}
use Rattle.script_forms.proofs.parse.parse_script.Goals as goal

pub returns-clause-found : goal.returns-clause-found
returns-clause-found c = found c.args.bytes.now c.read_script.result c.read_script.ensures

pub returns-clause-only : goal.returns-clause-only
returns-clause-only c = only c.args.bytes.now c.read_script.result c.read_script.ensures

pub returns-clause-fault : goal.returns-clause-fault
returns-clause-fault c = bad_line c.args.bytes.now c.read_script.result c.read_script.ensures

pub returns-clause-least : goal.returns-clause-least
returns-clause-least c = least c.args.bytes.now c.read_script.result c.read_script.ensures

pub returns-clause-fit : goal.returns-clause-fit
returns-clause-fit c = fit c.args.bytes.now c.read_script.result c.read_script.ensures
