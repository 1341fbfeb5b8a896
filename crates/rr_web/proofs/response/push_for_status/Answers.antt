use Rattle.rr_web.proofs.response.push_for_status.Goals as goal

pub returns-in-OnlyGet : goal.returns-in-OnlyGet
returns-in-OnlyGet c = rw c.in-OnlyGet.is c.push_field-in-OnlyGet.ensures

pub returns-in-UnknownCoding : goal.returns-in-UnknownCoding
returns-in-UnknownCoding c = rw c.in-UnknownCoding.is c.push_field-in-UnknownCoding.ensures
