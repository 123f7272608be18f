use Rattle.reply_texts.proofs.refusal.push_refusal.Goals as goal

pub returns-in-Outlasted : goal.returns-in-Outlasted
returns-in-Outlasted c = rw c.in-Outlasted.is c.push_two_numbers.ensures

pub returns-in-FileGone : goal.returns-in-FileGone
returns-in-FileGone c = rw c.in-FileGone.is c.push_named.ensures

pub returns-in-NameTaken : goal.returns-in-NameTaken
returns-in-NameTaken c = rw c.in-NameTaken.is c.push_named-in-NameTaken.ensures

pub returns-in-BadObject : goal.returns-in-BadObject
returns-in-BadObject c = rw c.in-BadObject.is c.push_named_fault.ensures

pub returns-in-Unsupported : goal.returns-in-Unsupported
returns-in-Unsupported c = rw c.in-Unsupported.is c.push_word_and_feature.ensures

pub returns-in-NoMemory : goal.returns-in-NoMemory
returns-in-NoMemory c = rw c.in-NoMemory.is c.push-in-NoMemory.ensures

pub returns-in-LogGone : goal.returns-in-LogGone
returns-in-LogGone c = rw c.in-LogGone.is c.push_named-in-LogGone.ensures

pub returns-in-TooLarge : goal.returns-in-TooLarge
returns-in-TooLarge c = rw c.in-TooLarge.is c.push_counted-in-TooLarge.ensures
