-- What a stored task stands for.
use Rattle.job.specs.Job.{Job}
use Rattle.job.specs.Task as T
use Rattle.job.specs.Store.{job_of, task_of}
use Rattle.job.specs.declared.task.Task.{Task}

abbrev pub stored_job : Task → Job
stored_job t = job_of t.head t.rows.now

abbrev pub stored_task : Task → T.Task
stored_task t = task_of t.head t.rows.now
